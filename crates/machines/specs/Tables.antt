-- Weights that lie in a list of values: what stands at a place, and the table of a list, row by row.
use Rattle.std.specs.Prelude.{◌≡◌, ℕ, ◌+◌, ◌*◌, ◌<◌, List, map, length, slice_index_or}
use Rattle.weights.specs.Semiring.{Ops}
use Rattle.machines.specs.Closure.{Table, closed, ClosesUniformly}

-- the weight that the value at place p means; zero past the end
abbrev pub weight_at : {K W : Type 0} → Ops W → (K → W) → List K → ℕ → W
weight_at o meaning ws p = slice_index_or (map meaning ws) p o.nil

-- the table of d states that lies at the front of the list
abbrev pub table_of : {K W : Type 0} → Ops W → (K → W) → ℕ → List K → Table W
table_of o meaning d ws i k = weight_at o meaning ws (i * d + k)

-- each weight of the new row is that of the row, joined with the factor chained with the other row's
abbrev pub Joined : {K W : Type 0} → Ops W → (K → W) → (row : List K) → W → (other new : List K) → Type 0
Joined o meaning row factor other new =
    (k : ℕ) → k < length other →
    weight_at o meaning new k ≡ o.plus (weight_at o meaning row k) (o.times factor (weight_at o meaning other k))

-- two tables agree in every entry of d states
abbrev pub Entries : {W : Type 0} → ℕ → (t u : Table W) → Type 0
Entries d t u = (i k : ℕ) → i < d → k < d → t i k ≡ u i k

-- what closing makes of the table of d states in the list old: every entry is the closed one, and the table is what the
-- joins of the walks of at most m steps come to, for every m from some number on
pub record Closed {K W : Type 0} (o : Ops W) (meaning : K → W) (d : ℕ) (old new : List K) : Type 0 where
  pub entries : Entries d (table_of o meaning d new) (closed o d (table_of o meaning d old))
  pub settles : ClosesUniformly o d (table_of o meaning d old) (table_of o meaning d new)
