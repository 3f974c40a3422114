-- The ranges that the three numbers of an arc's record keep to.
use Rattle.std.specs.Prelude.{ℕ, ◌<◌, ◌≤◌}

abbrev pub InRange : (minutes grade parts : ℕ) → Type 0
InRange minutes grade parts = (minutes ≤ 60000) × (1 ≤ grade) × (grade ≤ 100) × (parts < 0x8000_0000)
