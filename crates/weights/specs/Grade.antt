-- Grades: what a number means, the operations on the meanings, and the weight of an arc.
use Rattle.std.specs.Prelude.{ℕ}
use Rattle.weights.specs.Semiring.{Ops}
use Rattle.weights.specs.Capped.{Upto, capped, smaller, larger}
use Rattle.weights.specs.declared.grade.Grade.{Grade}

-- the best grade, which a number above it means too
abbrev pub best_grade : ℕ
best_grade = 100

abbrev pub grade_meaning : Grade → Upto best_grade
grade_meaning g = capped best_grade g.0

-- joining takes the larger grade and chaining the smaller
abbrev pub grade_ops : Ops (Upto best_grade)
grade_ops = record {
  nil = capped best_grade 0;
  unit = capped best_grade best_grade;
  plus = larger;
  times = smaller;
  star = λ a. capped best_grade best_grade;
}

abbrev pub grade_weighs : (minutes grade parts : ℕ) → Upto best_grade
grade_weighs minutes grade parts = capped best_grade grade
