-- `bit_and` and `bit_or` by digits: an equation between two numbers up to a cap is one of `min` and `max` at each digit.
use Rattle.std.specs.Prelude.{◌≡◌, ℕ, zero, suc, ◌/◌, ◌%◌, ◌≤◌, min, max, bit_and, bit_or}
use Rattle.std.proofs.Common.{ap, ◌∙◌, arith}
use Rattle.std.specs.Int.Bits.{and_step, or_step, or_add_and}
use Rattle.std.proofs.lemmas.Nat.{and_shr, or_shr, and_comm, and_mask}
use Rattle.weights.specs.Capped.{Upto, same_value}

-- the binary digit of n at the place k
abbrev pub digit : ℕ → ℕ → ℕ
digit zero n = n % 2
digit (suc k) n = digit k (n / 2)

-- a digit of an `and` is the smaller of the two digits
pub digit_and : (k a b : ℕ) → digit k (bit_and a b) ≡ min (digit k a) (digit k b)
digit_and zero a b = omega (arith, and_step a b)
digit_and (suc k) a b = ap (digit k) (and_shr a b 1) ∙ digit_and k (a / 2) (b / 2)

-- and one of an `or` is the larger
pub digit_or : (k a b : ℕ) → digit k (bit_or a b) ≡ max (digit k a) (digit k b)
digit_or zero a b = omega (arith, or_step a b)
digit_or (suc k) a b = ap (digit k) (or_shr a b 1) ∙ digit_or k (a / 2) (b / 2)

-- both, for `simp`
pub ruleset digits = (digit_and, digit_or)

-- numbers up to n are equal if all their digits are
by_digits : (n a b : ℕ) → a ≤ n → b ≤ n → ((k : ℕ) → digit k a ≡ digit k b) → a ≡ b
by_digits zero a b p q same = omega arith
by_digits (suc n) a b p q same =
    omega (arith, same zero, by_digits n (a / 2) (b / 2) (omega arith) (omega arith) (λ k. same (suc k)))

-- and so are the weights with such values
pub same_digits : {cap : ℕ} (a b : Upto cap) → ((k : ℕ) → digit k a.value ≡ digit k b.value) → a ≡ b
same_digits {cap} a b same = same_value a b (by_digits cap a.value b.value a.small b.small same)

-- the `and` with all 32 digits changes nothing
pub and_all : (a : ℕ) → a ≤ 4294967295 → bit_and 4294967295 a ≡ a
and_all a h = omega (arith, and_comm a 4294967295, and_mask a 32)

-- and the `or` with them is all of them
pub or_all : (a : ℕ) → a ≤ 4294967295 → bit_or 4294967295 a ≡ 4294967295
or_all a h = omega (arith, and_all a h, or_add_and 4294967295 a)
