-- What one arc of a chart adds to a table.
use Rattle.std.specs.Prelude.{◌≡◌, ℕ, ◌+◌, ◌-◌, ◌*◌, ◌<◌, ◌≤◌, cond, ◌&&◌, List, ◌==◌}
use Rattle.weights.specs.Semiring.{Ops}
use Rattle.charts.specs.Views.{Row}
use Rattle.machines.specs.Closure.{Table}
use Rattle.machines.specs.Tables.{weight_at}

-- the weight of an arc of this row, where it goes from i to k and spells the letter c; else zero
abbrev pub arc_adds : {W : Type 0} → Ops W → ((minutes grade parts : ℕ) → W) → Row → ℕ → Table W
arc_adds o weighs r c i k =
    cond (r.letter == c && r.from == i && r.to == k) (weighs r.minutes r.grade r.parts) o.nil

-- the same behind a table e: from i by e to where the arc begins, and then by the arc to k
abbrev pub arc_adds_behind : {W : Type 0} → Ops W → ((minutes grade parts : ℕ) → W) → Table W → Row → ℕ → Table W
arc_adds_behind o weighs e r c i k =
    cond (r.letter == c && r.to == k) (o.times (e i r.from) (weighs r.minutes r.grade r.parts)) o.nil

-- the entry of a block, where the blocks of d states lie one behind another, from that of letter 1 on
abbrev pub block_entry : {K W : Type 0} → Ops W → (K → W) → ℕ → List K → ℕ → Table W
block_entry o meaning d blocks c i k = weight_at o meaning blocks ((c - 1) * (d * d) + (i * d + k))

-- two families of tables agree in every entry of d states, for each letter from 1 on
abbrev pub Blocks : {W : Type 0} → ℕ → (s t : ℕ → Table W) → Type 0
Blocks d s t = (c i k : ℕ) → 1 ≤ c → i < d → k < d → s c i k ≡ t c i k
