-- Parts: what 32 bits mean, the operations on the meanings, and the weight of an arc.
use Rattle.std.specs.Prelude.{ℕ, ◌≤◌, bit_and, bit_or}
use Rattle.std.proofs.Common.{arith}
use Rattle.std.proofs.lemmas.Nat.{and_le_l, or_lt}
use Rattle.weights.specs.Semiring.{Ops}
use Rattle.weights.specs.Capped.{Upto, capped}
use Rattle.weights.specs.declared.parts.Parts.{Parts}

-- all 32 bits, which is no way at all
abbrev pub all_parts : ℕ
all_parts = 4294967295

-- the bits that two have in common make no larger number than either
pub and_small : {cap : ℕ} (a b : Upto cap) → bit_and a.value b.value ≤ cap
and_small a b = omega (arith, and_le_l a.value b.value)

-- and the bits that one of the two has are no more than 32
pub or_small : (a b : Upto all_parts) → bit_or a.value b.value ≤ all_parts
or_small a b = omega (arith, or_lt 32 a.value b.value (omega arith) (omega arith))

abbrev pub in_both : {cap : ℕ} → Upto cap → Upto cap → Upto cap
in_both a b = record { value = bit_and a.value b.value; small = and_small a b }

abbrev pub in_either : Upto all_parts → Upto all_parts → Upto all_parts
in_either a b = record { value = bit_or a.value b.value; small = or_small a b }

abbrev pub parts_meaning : Parts → Upto all_parts
parts_meaning p = capped all_parts p.0

-- a number is a set of parts, a bit for a part; joining takes what is in both and chaining what is in either
abbrev pub parts_ops : Ops (Upto all_parts)
parts_ops = record {
  nil = capped all_parts all_parts;
  unit = capped all_parts 0;
  plus = in_both;
  times = in_either;
  star = λ a. capped all_parts 0;
}

abbrev pub parts_weighs : (minutes grade parts : ℕ) → Upto all_parts
parts_weighs minutes grade parts = capped all_parts parts
