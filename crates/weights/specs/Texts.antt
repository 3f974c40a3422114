-- The text of an arc's record.
use Rattle.std.specs.Prelude.{ℕ, zero, suc, ◌/◌, ◌%◌, false, List, [], ◌∷◌, ◌++◌, codes, decimal}
use Rattle.std.specs.Fmt.{digit_glyph}

-- the lowest k hexadecimal digits of n, in lower case, the highest of them first
abbrev pub hex_digits : ℕ → ℕ → List ℕ
hex_digits zero n = []
hex_digits (suc k) n = hex_digits k (n / 16) ++ digit_glyph false (n % 16) ∷ []

-- 10 minutes, grade 90, parts 00000001
abbrev pub record_text : (minutes grade parts : ℕ) → List ℕ
record_text minutes grade parts =
    decimal minutes ++ (codes " minutes, grade " ++ (decimal grade ++ (codes ", parts " ++ hex_digits 8 parts)))
