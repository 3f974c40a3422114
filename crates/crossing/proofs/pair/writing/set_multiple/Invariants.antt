use Rattle.std.proofs.Common.{◌≡◌, ℕ, ◌<◌}
use Rattle.machines.specs.Tables.{weight_at}
use Rattle.crossing.proofs.pair.writing.set_multiple.Given as goal

abbrev pub invariant-loop-k : goal.invariant-loop-k
invariant-loop-k g l =
    let o = g.K.Weight.ops in
    let meaning = g.K.Weight.meaning in
    (k : ℕ) → k < l.k → weight_at o meaning l.row k ≡ o.times (meaning l.factor) (weight_at o meaning l.other k)
