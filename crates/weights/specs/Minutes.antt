-- Minutes: what a number means, the operations on the meanings, and the weight of an arc.
use Rattle.std.specs.Prelude.{ℕ, ◌+◌}
use Rattle.weights.specs.Semiring.{Ops}
use Rattle.weights.specs.Capped.{Upto, capped, smaller}
use Rattle.weights.specs.declared.minutes.Minutes.{Minutes}

-- the largest number, which is no way at all
abbrev pub most_minutes : ℕ
most_minutes = 4294967295

abbrev pub minutes_meaning : Minutes → Upto most_minutes
minutes_meaning m = capped most_minutes m.0

-- joining takes the smaller and chaining adds
abbrev pub minutes_ops : Ops (Upto most_minutes)
minutes_ops = record {
  nil = capped most_minutes most_minutes;
  unit = capped most_minutes 0;
  plus = smaller;
  times = λ a b. capped most_minutes (a.value + b.value);
  star = λ a. capped most_minutes 0;
}

abbrev pub minutes_weighs : (minutes grade parts : ℕ) → Upto most_minutes
minutes_weighs minutes grade parts = capped most_minutes minutes
