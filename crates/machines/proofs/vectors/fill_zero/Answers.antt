use Rattle.std.proofs.Common.{ap, ◌∙◌, arith}
use Rattle.machines.proofs.Places.{before_set}
use Rattle.machines.proofs.vectors.fill_zero.Goals as goal

pub loop-weight-preserved : goal.loop-weight-preserved
loop-weight-preserved g c =
    before_set g.K.Weight.ops g.K.Weight.meaning c.loop-weight.weights c.loop-weight.weight-index c.ZERO.result (omega arith)
    (ap g.K.Weight.meaning c.ZERO.ensures ∙ g.met.K.Weight.zero_means) c.loop-weight.invariant
