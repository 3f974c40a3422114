use Rattle.std.proofs.Common.{◌≡◌, ◌*◌, ◌≤◌, length, drop, arith, rules}
use Rattle.std.proofs.lemmas.Slice.{drop-append-drop}
use Rattle.charts.specs.Automaton.{automaton}
use Rattle.charts.proofs.Fitting.{fitted}
use Rattle.charts.proofs.Sound.{sound}
use Rattle.machines.specs.Shapes.{machine_size}
use Rattle.machines.proofs.Places.{row_within}
use Rattle.machines.proofs.Told.{cleared_front}
use Rattle.machines.proofs.clearing.clear.Goals as goal

pub returns-clause-clears : goal.returns-clause-clears
returns-clause-clears g c _ =
    let v = c.args.chart.now in
    let size = c.machine_size-size.result in
    let written = c.clear_into.new.table in
    let long : length written ≡ size = search rules in
    let whole : length written ≡ machine_size v.states v.letters = cc in
    cleared_front g.K.Weight.meaning g.met.K.Weight.laws (automaton g.K.Weight.weighs v) (sound g.K.Weight.weighs v c.states-states.ensures.fits) written
    (drop size c.args.table.now) whole c.clear_into.ensures

pub returns-clause-scratch_kept : goal.returns-clause-scratch_kept
returns-clause-scratch_kept g c =
    let v = c.args.chart.now in
    let d = v.states in
    let states = c.states-states.ensures.value in
    let row : d ≤ d * d = row_within d (fitted v c.states-states.ensures.fits).limits.some_states in
    drop-append-drop c.states-states.result c.args.scratch.now c.clear_into.new.kept (d * d) (omega arith) (search rules)
