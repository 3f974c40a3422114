-- The laws of counts, whose sums and products are stopped at the cap.
use Rattle.std.specs.Prelude.{◌≡◌, ℕ, zero, suc, ◌+◌, ◌*◌, ◌<◌, ◌≤◌, min, cond, ◌==◌, refl}
use Rattle.std.proofs.Common.{sym, ap, ◌∙◌, mul_comm, mul_assoc, mul-add, add-mul, mul-zero, zero-mul, mul-suc, mul-pos, arith}
use Rattle.std.proofs.Math.Nat.{min-eq_left}
use Rattle.std.proofs.Math.Decide.{dec_le}
use Rattle.std.proofs.Math.Dec.{eqb-suc-zero}
use Rattle.weights.specs.Semiring.{Plain, Laws, Commutes, power, powers}
use Rattle.weights.specs.Capped.{Upto, same_value, value_of}
use Rattle.weights.specs.Count.{most_counted, count_ops}

-- a factor may be stopped at the cap before the product is
pub min_mul : (k x c : ℕ) → min (min x k * c) k ≡ min (x * c) k
min_mul k x zero = simp mul-zero
min_mul k x (suc c) = elim (dec_le x k) [
  | yes h ↦ ap (λ z. min (z * suc c) k) (min-eq_left h)
  | no h ↦ simp mul-suc (omega arith)
]

-- and so may the other factor
pub mul_min : (k c x : ℕ) → min (c * min x k) k ≡ min (c * x) k
mul_min k c x = rw (mul_comm c (min x k), mul_comm c x) (min_mul k x c)

-- and so may both parts of a sum
add_mins : (k x y : ℕ) → min (x + y) k ≡ min (min x k + min y k) k
add_mins k x y = omega arith

-- no power of a count that is not zero is zero
power_pos : (a : Upto most_counted) → 0 < a.value → (m : ℕ) → 0 < (power count_ops a m).value
power_pos a h zero = omega arith
power_pos a h (suc m) = let p = mul-pos h (power_pos a h m) in omega arith

-- so each power adds at least one until the cap is met
powers_grow : (a : Upto most_counted) → 0 < a.value → (m : ℕ) → min (suc m) most_counted ≤ (powers count_ops a m).value
powers_grow a h zero = omega arith
powers_grow a h (suc m) = omega (arith, powers_grow a h m, power_pos a h (suc m))

-- the powers of zero are zero, but for the first
powers_zero : (a : Upto most_counted) → a.value ≡ 0 → (m : ℕ) → (powers count_ops a m).value ≡ 1
powers_zero a e zero = refl
powers_zero a e (suc m) = rw (e, zero-mul (power count_ops a m).value, powers_zero a e m)

-- the join of the powers of a count stays the same from the power 65534 on
settles : (a : Upto most_counted) (m : ℕ) → 65534 ≤ m → powers count_ops a m ≡ count_ops.star a
settles a m h = same_value _ _ (go a.value refl)
  where
    go : (v : ℕ) → a.value ≡ v → (powers count_ops a m).value ≡ min (cond (v == 0) 1 most_counted) most_counted
    go zero e = powers_zero a e m
    go (suc v) e = rw (eqb-suc-zero v) (omega (arith, powers_grow a (omega arith) m, (powers count_ops a m).small))

-- a product does not mind the order
pub count_commutes : Commutes count_ops
count_commutes a b = same_value _ _ (ap (λ n. min n most_counted) (mul_comm a.value b.value))

plain : Plain count_ops
plain = record {
  plus_assoc = λ a b c. same_value _ _ (omega arith);
  plus_comm = λ a b. same_value _ _ (omega arith);
  nil_plus = λ a. same_value _ _ (omega arith);
  times_assoc = λ a b c. let k : ℕ = most_counted in let x = a.value in let y = b.value in let z = c.value in
      same_value _ _ (min_mul k (x * y) z ∙ ap (λ n. min n k) (mul_assoc x y z) ∙ sym (mul_min k x (y * z)));
  unit_times = λ a. same_value _ _ (omega arith);
  times_unit = λ a. same_value _ _ (omega arith);
  times_plus = λ a b c. let k : ℕ = most_counted in let x = a.value in let y = b.value in let z = c.value in
      same_value _ _ (mul_min k x (y + z) ∙ ap (λ n. min n k) (mul-add x y z) ∙ add_mins k (x * y) (x * z));
  plus_times = λ a b c. let k : ℕ = most_counted in let x = a.value in let y = b.value in let z = c.value in
      same_value _ _ (min_mul k (x + y) z ∙ ap (λ n. min n k) (add-mul x y z) ∙ add_mins k (x * z) (y * z));
  nil_times = λ a. same_value _ _ (omega arith);
  times_nil = λ a. same_value _ _ (omega arith);
  apart = λ e. let d = value_of e in omega arith;
  antisym = λ a b c d p q. same_value _ _ (omega (arith, value_of p, value_of q));
}

pub count_laws : Laws count_ops
count_laws = record { plain = plain; settles = λ a. (65534, settles a) }
