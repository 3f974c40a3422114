use Rattle.std.proofs.Common.{arith}
use Rattle.machines.proofs.Places.{before_set}
use Rattle.machines.proofs.clearing.ends.write_starts.Goals as goal

pub loop-i-preserved : goal.loop-i-preserved
loop-i-preserved g c =
    before_set g.K.Weight.ops g.K.Weight.meaning c.loop-i.row c.loop-i.i c.start_weight.result (omega arith)
    c.start_weight.ensures c.loop-i.invariant
