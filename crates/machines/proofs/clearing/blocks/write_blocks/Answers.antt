use Rattle.std.proofs.Common.{◌≡◌, ◌*◌, ◌≤◌, length, ap, mul-le-mul_right, arith}
use Rattle.charts.specs.Arcs.{row_of_arc, letter_number}
use Rattle.charts.specs.Automaton.{automaton}
use Rattle.charts.specs.Views.{arc_row}
use Rattle.charts.proofs.Fitting.{fitted}
use Rattle.charts.proofs.InOrder.{passed, reached_more, reached_end, taken_more}
use Rattle.charts.proofs.Sound.{sound, row_passed, passed_between}
use Rattle.machines.specs.Arcs.{arc_adds_behind}
use Rattle.machines.specs.Matrix.{matrix_of}
use Rattle.machines.proofs.Added.{blocks_more}
use Rattle.machines.proofs.Behind.{arcs_behind}
use Rattle.machines.proofs.clearing.blocks.write_blocks.Goals as goal

pub join_block-requires : goal.join_block-requires
join_block-requires g c =
    let v = c.args.chart.now in
    let fits = c.arcs_in_order-arc-items.ensures.fits in
    let p = passed v.arc_rows (length c.loop-arc.yielded) c.loop-arc.invariant.left c.in-Some.ensures.steps in
    let between = passed_between v fits _ p in
    let few = (fitted v fits).limits.few_letters in
    let letter = between.letter_within in
    let size = v.states * v.states in
    let long : length c.loop-arc.blocks ≡ v.letters * size = cc in
    let room : letter_number c.in-Some.arc.letter * size ≤ v.letters * size = mul-le-mul_right size letter in
    rw c.requires.closes (record { within = (between.from_below, (between.to_below, omega arith)); fits = rw long room })

pub loop-arc-preserved : goal.loop-arc-preserved
loop-arc-preserved g c =
    let o = g.K.Weight.ops in
    let meaning = g.K.Weight.meaning in
    let weighs = g.K.Weight.weighs in
    let v = c.args.chart.now in
    let n = length c.loop-arc.yielded in
    let closed = matrix_of o meaning c.args.closed.now in
    let p = passed v.arc_rows n c.loop-arc.invariant.left c.in-Some.ensures.steps in
    rw (taken_more c.loop-arc.yielded c.in-Some.arc) (record {
      joined = blocks_more meaning g.met.K.Weight.laws.plain v.states c.args.closed.now.states n c.loop-arc.blocks c.join_block.new.blocks
          (λ e. arc_adds_behind o weighs closed (arc_row v e)) (arc_adds_behind o weighs closed (row_of_arc c.in-Some.arc)) c.requires.closes
          (λ a i k. ap (λ r. arc_adds_behind o weighs closed r a i k) (row_passed v n p)) c.loop-arc.invariant.joined c.join_block.ensures;
      left = reached_more v.arc_rows n p;
    })

pub returns : goal.returns
returns g c a i k b h l =
    let o = g.K.Weight.ops in
    let v = c.args.chart.now in
    let all = reached_end v.arc_rows (length c.loop-arc.yielded) c.loop-arc.invariant.left c.in-None.ensures.steps.0 in
    let closed = matrix_of o g.K.Weight.meaning c.args.closed.now in
    let chart = automaton g.K.Weight.weighs v in
    let behind = arcs_behind g.met.K.Weight.laws.plain chart (sound g.K.Weight.weighs v c.arcs_in_order-arc-items.ensures.fits) closed a i k in
    rw (← behind) (rw all at (c.loop-arc.invariant.joined a i k b h l))
