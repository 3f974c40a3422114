use Rattle.machines.specs.Tables.{weight_at}
use Rattle.machines.proofs.Places.{Upto, RowIs}
use Rattle.crossing.proofs.pair.writing.write_pairs.Given as goal

abbrev pub invariant-loop-p : goal.invariant-loop-p
invariant-loop-p g l =
    let o = g.K.Weight.ops in
    let meaning = g.K.Weight.meaning in
    Upto (λ r. RowIs o meaning l.columns l.pairs r (λ q. o.times (weight_at o meaning l.first r) (weight_at o meaning l.second q))) (λ r. Unit) l.p
