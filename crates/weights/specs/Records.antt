-- What making a record answers.
use Rattle.std.specs.Prelude.{◌≡◌, ℕ, Some, None, Option}
use Rattle.weights.specs.Ranges.{InRange}
use Rattle.weights.specs.declared.arcs.ArcRecord.{ArcRecord}

-- some record of these numbers where they are in range, and none where they are not
abbrev pub Recorded : (minutes grade parts : ℕ) → Option ArcRecord → Type 0
Recorded minutes grade parts (Some r) =
    InRange minutes grade parts × (r.minutes ≡ minutes) × (r.grade ≡ grade) × (r.parts ≡ parts)
Recorded minutes grade parts None = InRange minutes grade parts → ⊥
