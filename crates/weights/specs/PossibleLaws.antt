-- The laws of what is possible, which are those of truth values.
use Rattle.std.specs.Prelude.{◌≡◌, ◌⊎◌, Bool, true, false, ◌||◌, refl}
use Rattle.std.proofs.Common.{inl, inr, sym}
use Rattle.std.proofs.Math.Bool as bool
use Rattle.weights.specs.Semiring.{Plain, Laws, Commutes, RankedLaws}
use Rattle.weights.specs.Possible.{possible_ops}
use Rattle.weights.specs.Bounded.{bounded_settles}

-- two truths are the same where each is the join of the other with some third
antisym : (a b c d : Bool) → (a || c) ≡ b → (b || d) ≡ a → a ≡ b
antisym true b c d p q = p
antisym false true c d p q = sym q
antisym false false c d p q = refl

-- two ways are asked for in either order
pub possible_commutes : Commutes possible_ops
possible_commutes = bool.and_comm

-- of two truths the join is one
picks : (a b : Bool) → ((a || b) ≡ a) ⊎ ((a || b) ≡ b)
picks true b = inl refl
picks false b = inr refl

-- a way is better than none
pub possible_ranked : RankedLaws possible_ops
possible_ranked = record { picks = picks; bounded = bool.true-or }

plain : Plain possible_ops
plain = record {
  plus_assoc = bool.or_assoc;
  plus_comm = bool.or_comm;
  nil_plus = bool.false-or;
  times_assoc = bool.and_assoc;
  unit_times = bool.true-and;
  times_unit = bool.and-true;
  times_plus = bool.and-or_distrib_left;
  plus_times = bool.and-or_distrib_right;
  nil_times = bool.false-and;
  times_nil = bool.and-false;
  apart = bool.false≢true;
  antisym = antisym;
}

pub possible_laws : Laws possible_ops
possible_laws = record { plain = plain; settles = bounded_settles possible_ops bool.true-or (λ a. refl) }
