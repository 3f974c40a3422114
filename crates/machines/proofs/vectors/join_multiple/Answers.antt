use Rattle.std.proofs.Common.{ap, ◌∙◌, arith}
use Rattle.machines.proofs.Places.{upto_set, weight_read}
use Rattle.machines.proofs.Sums.{nil_joined}
use Rattle.machines.proofs.vectors.join_multiple.Goals as goal

pub loop-k-preserved : goal.loop-k-preserved
loop-k-preserved g c =
    let o = g.K.Weight.ops in
    let meaning = g.K.Weight.meaning in
    let k = c.loop-k.k in
    let held = c.loop-k.invariant.after k (omega arith) in
    let read = weight_read o meaning c.loop-k.row k c.index-row-k.result (omega arith) c.index-row-k.is in
    let other = weight_read o meaning c.args.other.now k c.index-other-k.result (omega arith) c.index-other-k.is in
    upto_set o meaning c.loop-k.row k c.plus.result (omega arith) (cc) c.loop-k.invariant

pub returns-then-same : goal.returns-then-same
returns-then-same g c k h =
    let plain = g.met.K.Weight.laws.plain in
    nil_joined plain (c.same.ensures.0 c.if-same.true ∙ ap g.K.Weight.meaning c.ZERO.ensures ∙ g.met.K.Weight.zero_means)
