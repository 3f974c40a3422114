use Rattle.std.proofs.Common.{◌≡◌, ℕ, ◌<◌}
use Rattle.machines.specs.Tables.{weight_at}
use Rattle.machines.proofs.vectors.fill_zero.Given as goal

abbrev pub invariant-loop-weight : goal.invariant-loop-weight
invariant-loop-weight g l =
    let o = g.K.Weight.ops in
    (k : ℕ) → k < l.weight-index → weight_at o g.K.Weight.meaning l.weights k ≡ o.nil
