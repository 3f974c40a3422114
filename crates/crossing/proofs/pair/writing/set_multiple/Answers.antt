use Rattle.std.proofs.Common.{arith}
use Rattle.machines.proofs.Places.{before_set, weight_read}
use Rattle.crossing.proofs.pair.writing.set_multiple.Goals as goal

pub loop-k-preserved : goal.loop-k-preserved
loop-k-preserved g c =
    let o = g.K.Weight.ops in
    let meaning = g.K.Weight.meaning in
    let k = c.loop-k.k in
    let other = weight_read o meaning c.args.other.now k c.index-other-k.result (omega arith) c.index-other-k.is in
    before_set o meaning c.loop-k.row k c.times.result (omega arith) (cc) c.loop-k.invariant
