-- The weights of one kind: a semiring whose star is a finite sum.
use Rattle.std.specs.Prelude.{◌≡◌, ℕ, zero, suc, ◌≤◌, ◌⊎◌, ◌≢◌}

-- zero is `nil`, no way at all; one is `unit`, a way that costs nothing; join is `plus`, chain is `times`, loop is `star`
pub record Ops (W : Type 0) : Type 0 where
  pub nil : W
  pub unit : W
  pub plus : W → W → W
  pub times : W → W → W
  pub star : W → W

-- a chained n times; none is one
abbrev pub power : {W : Type 0} → Ops W → W → ℕ → W
power o a zero = o.unit
power o a (suc n) = o.times a (power o a n)

-- the join of one, a, a chained twice, up to a chained n times
abbrev pub powers : {W : Type 0} → Ops W → W → ℕ → W
powers o a zero = o.unit
powers o a (suc n) = o.plus (powers o a n) (power o a (suc n))

-- the star is a finite sum: from some n on, the join of the powers is the star
abbrev pub Settling : {W : Type 0} → Ops W → Type 0
Settling {W} o = (a : W) → ((n : ℕ) × ((m : ℕ) → n ≤ m → powers o a m ≡ o.star a))

-- the laws of all but the star
pub record Plain {W : Type 0} (o : Ops W) : Type 0 where
  pub plus_assoc : (a b c : W) → o.plus (o.plus a b) c ≡ o.plus a (o.plus b c)
  pub plus_comm : (a b : W) → o.plus a b ≡ o.plus b a
  pub nil_plus : (a : W) → o.plus o.nil a ≡ a
  pub times_assoc : (a b c : W) → o.times (o.times a b) c ≡ o.times a (o.times b c)
  pub unit_times : (a : W) → o.times o.unit a ≡ a
  pub times_unit : (a : W) → o.times a o.unit ≡ a
  pub times_plus : (a b c : W) → o.times a (o.plus b c) ≡ o.plus (o.times a b) (o.times a c)
  pub plus_times : (a b c : W) → o.times (o.plus a b) c ≡ o.plus (o.times a c) (o.times b c)
  pub nil_times : (a : W) → o.times o.nil a ≡ o.nil
  pub times_nil : (a : W) → o.times a o.nil ≡ o.nil
  pub apart : o.nil ≡ o.unit → ⊥
  pub antisym : (a b c d : W) → o.plus a c ≡ b → o.plus b d ≡ a → a ≡ b

pub record Laws {W : Type 0} (o : Ops W) : Type 0 where
  pub plain : Plain o
  pub settles : Settling o

-- the chain does not mind the order
abbrev pub Commutes : {W : Type 0} → Ops W → Type 0
Commutes {W} o = (a b : W) → o.times a b ≡ o.times b a

-- the join of two weights is one of them, and nothing is better than one
pub record RankedLaws {W : Type 0} (o : Ops W) : Type 0 where
  pub picks : (a b : W) → (o.plus a b ≡ a) ⊎ (o.plus a b ≡ b)
  pub bounded : (a : W) → o.plus o.unit a ≡ o.unit

-- a is better than b: they differ, and their join is a
abbrev pub Better : {W : Type 0} → Ops W → W → W → Type 0
Better o a b = (a ≢ b) × (o.plus a b ≡ a)
