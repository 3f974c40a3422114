-- What the methods of the kinds answer.
use Rattle.std.proofs.Common.{◌≡◌, ℕ, ◌+◌, ◌*◌, min, max, eqb, leb, Decides, sym, ◌∙◌, ap₂, arith}
use Rattle.std.proofs.lemmas.Bool.Decides.{Decides-eqb, Decides-like, nat_tests}
use Rattle.weights.specs.Capped.{Upto, capped, smaller, larger, same_value, value_of}
use Rattle.weights.specs.CountLaws.{min_mul, mul_min}

-- two numbers that are stopped at the cap are equal where the meanings are
pub same_capped : (k x y : ℕ) {u v : ℕ} → u ≡ min x k → v ≡ min y k → Decides (eqb u v) (capped k x ≡ capped k y)
same_capped k x y {u} {v} p q =
    Decides-like (eqb u v) (λ e. same_value _ _ (sym p ∙ e ∙ q)) (λ e. p ∙ value_of e ∙ sym q) (Decides-eqb u v)

-- the smaller of two numbers means the smaller of the meanings
pub smaller_capped : (k x y : ℕ) → capped k (min x y) ≡ smaller (capped k x) (capped k y)
smaller_capped k x y = same_value _ _ (omega arith)

-- and the larger the larger
pub larger_capped : (k x y : ℕ) → capped k (max x y) ≡ larger (capped k x) (capped k y)
larger_capped k x y = same_value _ _ (omega arith)

-- a sum stopped at the cap means the sum of the meanings
pub plus_capped : (k x y : ℕ) → capped k (min (x + y) k) ≡ capped k (min x k + min y k)
plus_capped k x y = same_value _ _ (omega arith)

-- a product stopped at the cap means the product of the meanings
pub times_capped : (k x y : ℕ) → capped k (min (x * y) k) ≡ capped k (min x k * min y k)
times_capped k x y = same_value _ _ (omega (arith, min_mul k x (min y k), mul_min k x y))

-- of two such numbers the first is no larger where it means the smaller of the meanings
pub keeps_smaller : (k x y : ℕ) {u v : ℕ} → u ≡ min x k → v ≡ min y k
    → Decides (leb u v) (smaller (capped k x) (capped k y) ≡ capped k x)
keeps_smaller k x y {u} {v} p q =
    (λ e. same_value _ _ (grind (arith, nat_tests)), λ e. let f = value_of e in grind (arith, nat_tests))

-- and the second is no larger where the first means the larger of the meanings
pub keeps_larger : (k x y : ℕ) {u v : ℕ} → u ≡ min x k → v ≡ min y k
    → Decides (leb v u) (larger (capped k x) (capped k y) ≡ capped k x)
keeps_larger k x y {u} {v} p q =
    (λ e. same_value _ _ (grind (arith, nat_tests)), λ e. let f = value_of e in grind (arith, nat_tests))

-- an operation on two numbers that the cap does not stop means the same operation on the meanings
pub op_capped : (k : ℕ) (op : ℕ → ℕ → ℕ) (x y : ℕ) {w : Upto k} → x ≡ min x k → y ≡ min y k
    → op (min x k) (min y k) ≡ w.value → capped k (op x y) ≡ w
op_capped k op x y {w} p q e = same_value _ _ (omega (arith, ap₂ op p q))
