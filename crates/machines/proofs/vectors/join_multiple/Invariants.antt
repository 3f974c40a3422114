use Rattle.std.proofs.Common.{◌≡◌}
use Rattle.machines.specs.Tables.{weight_at}
use Rattle.machines.proofs.Places.{Upto}
use Rattle.machines.proofs.vectors.join_multiple.Given as goal

abbrev pub invariant-loop-k : goal.invariant-loop-k
invariant-loop-k g l =
    let o = g.K.Weight.ops in
    let meaning = g.K.Weight.meaning in
    Upto
    (λ k. weight_at o meaning l.row k ≡ o.plus (weight_at o meaning l.initial.row k) (o.times (meaning l.factor) (weight_at o meaning l.other k)))
    (λ k. weight_at o meaning l.row k ≡ weight_at o meaning l.initial.row k)
    l.k
