-- Closing a table: Lehmann's rounds, and what they come to.
use Rattle.std.specs.Prelude.{◌≡◌, ℕ, zero, suc, ◌<◌, ◌≤◌, cond, ◌==◌}
use Rattle.weights.specs.Semiring.{Ops}
use Rattle.charts.specs.Sums.{sum}

abbrev pub Table : Type 0 → Type 0
Table W = ℕ → ℕ → W

abbrev pub diagonal : {W : Type 0} → Ops W → Table W
diagonal o i k = cond (i == k) o.unit o.nil

-- round j: every entry of the new table from the old one
abbrev pub round : {W : Type 0} → Ops W → ℕ → Table W → Table W
round o j t i k = o.plus (t i k) (o.times (o.times (t i j) (o.star (t j j))) (t j k))

abbrev pub rounds : {W : Type 0} → Ops W → ℕ → Table W → Table W
rounds o zero t = t
rounds o (suc j) t = round o j (rounds o j t)

-- all the rounds, and one joined into the diagonal
abbrev pub closed : {W : Type 0} → Ops W → ℕ → Table W → Table W
closed o d t i k = o.plus (rounds o d t i k) (diagonal o i k)

-- the product of two tables of d states
abbrev pub product : {W : Type 0} → Ops W → ℕ → Table W → Table W → Table W
product o d s t i k = sum o d (λ j. o.times (s i j) (t j k))

-- the table times itself r times: the join of the walks of exactly r steps
abbrev pub walks : {W : Type 0} → Ops W → ℕ → Table W → ℕ → Table W
walks o d t zero = diagonal o
walks o d t (suc r) = product o d t (walks o d t r)

abbrev pub walks_up_to : {W : Type 0} → Ops W → ℕ → Table W → ℕ → Table W
walks_up_to o d t m i k = sum o (suc m) (λ r. walks o d t r i k)

-- entry by entry, the closed table is what the join of the walks of at most m steps is from some m on
abbrev pub Closes : {W : Type 0} → Ops W → ℕ → Table W → Table W → Type 0
Closes o d t e = (i k : ℕ) → i < d → k < d → ((n : ℕ) × ((m : ℕ) → n ≤ m → walks_up_to o d t m i k ≡ e i k))

-- the same, with one such m for all entries
abbrev pub ClosesUniformly : {W : Type 0} → Ops W → ℕ → Table W → Table W → Type 0
ClosesUniformly o d t e =
    (n : ℕ) × ((m : ℕ) → n ≤ m → (i k : ℕ) → i < d → k < d → walks_up_to o d t m i k ≡ e i k)
