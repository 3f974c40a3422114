-- Counts: what a number means, the operations on the meanings, and the weight of an arc.
use Rattle.std.specs.Prelude.{ℕ, ◌+◌, ◌*◌, cond, ◌==◌}
use Rattle.weights.specs.Semiring.{Ops}
use Rattle.weights.specs.Capped.{Upto, capped}
use Rattle.weights.specs.declared.count.Count.{Count}

-- the largest number, which is that many or more
abbrev pub most_counted : ℕ
most_counted = 65535

abbrev pub count_meaning : Count → Upto most_counted
count_meaning n = capped most_counted n.0

-- joining adds and chaining multiplies
abbrev pub count_ops : Ops (Upto most_counted)
count_ops = record {
  nil = capped most_counted 0;
  unit = capped most_counted 1;
  plus = λ a b. capped most_counted (a.value + b.value);
  times = λ a b. capped most_counted (a.value * b.value);
  star = λ a. capped most_counted (cond (a.value == 0) 1 most_counted);
}

-- an arc is one way
abbrev pub count_weighs : (minutes grade parts : ℕ) → Upto most_counted
count_weighs minutes grade parts = capped most_counted 1
