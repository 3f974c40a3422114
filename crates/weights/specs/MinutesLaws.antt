-- The laws of minutes.
use Rattle.std.specs.Prelude.{◌≡◌, ◌⊎◌, refl}
use Rattle.std.proofs.Common.{inl, inr, arith}
use Rattle.std.proofs.Math.Decide.{dec_le}
use Rattle.weights.specs.Semiring.{Plain, Laws, Commutes, RankedLaws}
use Rattle.weights.specs.Capped.{Upto, same_value, value_of, smaller}
use Rattle.weights.specs.Minutes.{most_minutes, minutes_ops}
use Rattle.weights.specs.Bounded.{bounded_settles}

-- nothing takes less than no time
bounded : (a : Upto most_minutes) → minutes_ops.plus minutes_ops.unit a ≡ minutes_ops.unit
bounded a = same_value _ _ (omega arith)

-- the smaller of two is one of them
picks : (a b : Upto most_minutes) → (smaller a b ≡ a) ⊎ (smaller a b ≡ b)
picks a b = elim (dec_le a.value b.value) [
  | yes h ↦ inl (same_value _ _ (omega arith))
  | no h ↦ inr (same_value _ _ (omega arith))
]

-- minutes are ranked: the fewer are the better
pub minutes_ranked : RankedLaws minutes_ops
minutes_ranked = record { picks = picks; bounded = bounded }

-- a sum does not mind the order
pub minutes_commutes : Commutes minutes_ops
minutes_commutes a b = same_value _ _ (omega arith)

plain : Plain minutes_ops
plain = record {
  plus_assoc = λ a b c. same_value _ _ (omega arith);
  plus_comm = λ a b. same_value _ _ (omega arith);
  nil_plus = λ a. same_value _ _ (omega arith);
  times_assoc = λ a b c. same_value _ _ (omega arith);
  unit_times = λ a. same_value _ _ (omega arith);
  times_unit = λ a. same_value _ _ (omega arith);
  times_plus = λ a b c. same_value _ _ (omega arith);
  plus_times = λ a b c. same_value _ _ (omega arith);
  nil_times = λ a. same_value _ _ (omega arith);
  times_nil = λ a. same_value _ _ (omega arith);
  apart = λ e. let d = value_of e in omega arith;
  antisym = λ a b c d p q. same_value _ _ (omega (arith, value_of p, value_of q));
}

pub minutes_laws : Laws minutes_ops
minutes_laws = record { plain = plain; settles = bounded_settles minutes_ops bounded (λ a. refl) }
