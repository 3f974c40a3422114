use Rattle.std.proofs.Common.{arith}
use Rattle.charts.specs.Views.{ends}
use Rattle.machines.proofs.Added.{row_sum}
use Rattle.machines.proofs.Places.{before_set}
use Rattle.machines.proofs.clearing.ends.write_ends.Goals as goal

pub loop-i-preserved : goal.loop-i-preserved
loop-i-preserved g c =
    let o = g.K.Weight.ops in
    let meaning = g.K.Weight.meaning in
    let closed = c.args.closed.now in
    let joined = row_sum meaning g.met.K.Weight.laws.plain closed.states c.loop-i.i (ends (c.args.chart.now)) closed.weights.now c.row.result.now
    c.row.ensures.value c.row.ensures.len c.end_weight.ensures in
    before_set o meaning c.loop-i.row c.loop-i.i c.end_weight.result (omega arith) joined c.loop-i.invariant
