use Rattle.std.proofs.Common.{◌*◌, ◌≤◌, rules}
use Rattle.std.proofs.lemmas.Slice.{drop-append-drop}
use Rattle.machines.proofs.Places.{row_within}
use Rattle.machines.proofs.Rounds.{matrix_closed}
use Rattle.machines.proofs.closure.close_table.Goals as goal

pub returns-clause-closes : goal.returns-clause-closes
returns-clause-closes g c _ =
    matrix_closed g.K.Weight.meaning g.met.K.Weight.laws c.args.states c.args.table.now _ c.new-matrix.result c.close.new.self
    c.new-matrix.ensures.states (search rules) c.close.ensures (search rules)

pub returns-clause-scratch_kept : goal.returns-clause-scratch_kept
returns-clause-scratch_kept g c =
    let d = c.args.states in
    let some : 1 ≤ d = search rules in
    let h = row_within d some in
    drop-append-drop d c.args.scratch.now c.close.new.kept (d * d) h (search rules)
