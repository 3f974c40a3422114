-- Finite joins.
use Rattle.std.specs.Prelude.{ℕ, zero, suc, List, [], ◌∷◌}
use Rattle.weights.specs.Semiring.{Ops}

-- the join of f 0 up to f (n - 1); a join of nothing is zero
abbrev pub sum : {W : Type 0} → Ops W → ℕ → (ℕ → W) → W
sum o zero f = o.nil
sum o (suc n) f = o.plus (sum o n f) (f n)

-- the join of f over every list of r numbers below n
abbrev pub sum_lists : {W : Type 0} → Ops W → ℕ → ℕ → (List ℕ → W) → W
sum_lists o n zero f = f []
sum_lists o n (suc r) f = sum o n (λ e. sum_lists o n r (λ es. f (e ∷ es)))
