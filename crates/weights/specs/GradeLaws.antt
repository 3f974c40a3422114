-- The laws of grades.
use Rattle.std.specs.Prelude.{◌≡◌, ◌⊎◌, refl}
use Rattle.std.proofs.Common.{inl, inr, arith}
use Rattle.std.proofs.Math.Decide.{dec_le}
use Rattle.weights.specs.Semiring.{Plain, Laws, Commutes, RankedLaws}
use Rattle.weights.specs.Capped.{Upto, same_value, value_of, larger}
use Rattle.weights.specs.Grade.{best_grade, grade_ops}
use Rattle.weights.specs.Bounded.{bounded_settles}

-- no grade is larger than the best one
bounded : (a : Upto best_grade) → grade_ops.plus grade_ops.unit a ≡ grade_ops.unit
bounded a = same_value _ _ (omega arith)

-- the larger of two is one of them
picks : (a b : Upto best_grade) → (larger a b ≡ a) ⊎ (larger a b ≡ b)
picks a b = elim (dec_le b.value a.value) [
  | yes h ↦ inl (same_value _ _ (omega arith))
  | no h ↦ inr (same_value _ _ (omega arith))
]

-- grades are ranked: the larger is the better
pub grade_ranked : RankedLaws grade_ops
grade_ranked = record { picks = picks; bounded = bounded }

-- the smaller of two grades does not mind their order
pub grade_commutes : Commutes grade_ops
grade_commutes a b = same_value _ _ (omega arith)

plain : Plain grade_ops
plain = record {
  plus_assoc = λ a b c. same_value _ _ (omega arith);
  plus_comm = λ a b. same_value _ _ (omega arith);
  nil_plus = λ a. same_value _ _ (omega arith);
  times_assoc = λ a b c. same_value _ _ (omega arith);
  unit_times = λ a. same_value _ _ (omega arith);
  times_unit = λ a. same_value _ _ (omega arith);
  times_plus = λ a b c. same_value _ _ (omega arith);
  plus_times = λ a b c. same_value _ _ (omega arith);
  nil_times = λ a. same_value _ _ (omega arith);
  times_nil = λ a. same_value _ _ (omega arith);
  apart = λ e. let d = value_of e in omega arith;
  antisym = λ a b c d p q. same_value _ _ (omega (arith, value_of p, value_of q));
}

pub grade_laws : Laws grade_ops
grade_laws = record { plain = plain; settles = bounded_settles grade_ops bounded (λ a. refl) }
