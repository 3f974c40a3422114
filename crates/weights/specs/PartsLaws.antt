-- The laws of sets of parts, digit by digit.
use Rattle.std.specs.Prelude.{refl}
use Rattle.std.proofs.Common.{◌∙◌, arith}
use Rattle.std.proofs.lemmas.Nat.{and_le_l}
use Rattle.std.specs.Int.Bits.{or_zero_r}
use Rattle.weights.specs.Semiring.{Plain, Laws, Commutes}
use Rattle.weights.specs.Capped.{same_value, value_of}
use Rattle.weights.specs.Parts.{parts_ops}
use Rattle.weights.specs.Bounded.{bounded_settles}
use Rattle.weights.specs.Digits.{digits, same_digits, and_all, or_all}

-- what is in either of two sets does not mind their order
pub parts_commutes : Commutes parts_ops
parts_commutes a b = same_digits _ _ (λ k. simp digits (omega arith))

plain : Plain parts_ops
plain = record {
  plus_assoc = λ a b c. same_digits _ _ (λ k. simp digits (omega arith));
  plus_comm = λ a b. same_digits _ _ (λ k. simp digits (omega arith));
  nil_plus = λ a. same_value _ _ (and_all a.value a.small);
  times_assoc = λ a b c. same_digits _ _ (λ k. simp digits (omega arith));
  unit_times = λ a. same_value _ _ refl;
  times_unit = λ a. same_value _ _ (or_zero_r a.value);
  times_plus = λ a b c. same_digits _ _ (λ k. simp digits (omega arith));
  plus_times = λ a b c. same_digits _ _ (λ k. simp digits (omega arith));
  nil_times = λ a. same_value _ _ (or_all a.value a.small);
  times_nil = λ a. parts_commutes a parts_ops.nil ∙ same_value _ _ (or_all a.value a.small);
  apart = λ e. let d = value_of e in omega arith;
  antisym = λ a b c d p q.
      same_value _ _ (omega (arith, value_of p, value_of q, and_le_l a.value c.value, and_le_l b.value d.value));
}

pub parts_laws : Laws parts_ops
parts_laws = record {
  plain = plain;
  settles = bounded_settles parts_ops (λ b. same_value _ _ refl) (λ a. refl);
}
