-- Two machines of the code that can be crossed: how many pairs of states they have, and their crossing.
use Rattle.std.specs.Prelude.{ℕ, ◌*◌}
use Rattle.weights.specs.Semiring.{Ops}
use Rattle.machines.specs.Machine.{Machine, crossed}
use Rattle.machines.specs.Meant.{meant}
use Rattle.crossing.specs.declared.pair.Pair.{Pair}

abbrev pub pair_states : {K : Type 0} → Pair K → ℕ
pair_states p = p.first.now.states * p.second.now.states

abbrev pub crossing_of : {K W : Type 0} → Ops W → (K → W) → Pair K → Machine W
crossing_of o meaning p = crossed o (meant o meaning p.first.now) (meant o meaning p.second.now)
