-- Possible: what a flag means, the operations on the meanings, and the weight of an arc.
use Rattle.std.specs.Prelude.{ℕ, Bool, true, false, ◌&&◌, ◌||◌}
use Rattle.weights.specs.Semiring.{Ops}
use Rattle.weights.specs.declared.possible.Possible.{Possible}

abbrev pub possible_meaning : Possible → Bool
possible_meaning p = p.0

-- joining asks for one of the two ways and chaining for both
abbrev pub possible_ops : Ops Bool
possible_ops = record {
  nil = false;
  unit = true;
  plus = ◌||◌;
  times = ◌&&◌;
  star = λ a. true;
}

-- an arc is a way
abbrev pub possible_weighs : (minutes grade parts : ℕ) → Bool
possible_weighs minutes grade parts = true
