-- The texts of a refusal and of an arc.
use Rattle.std.specs.Prelude.{ℕ, cond, List, ◌++◌, codes, decimal, ◌==◌}
use Rattle.weights.specs.Texts.{record_text}
use Rattle.charts.specs.Views.{Row}
use Rattle.charts.specs.Refusals.{number_of, place_of}
use Rattle.charts.specs.declared.refusals.Refusal.{Refusal}

-- 5 2
abbrev pub refusal_text : Refusal → List ℕ
refusal_text e = decimal (number_of e) ++ (codes " " ++ decimal (place_of e))

-- letter 1, or silent
abbrev pub letter_text : ℕ → List ℕ
letter_text c = cond (c == 0) (codes "silent") (codes "letter " ++ decimal c)

-- 0 -> 1 letter 1, 10 minutes, grade 90, parts 00000001
abbrev pub row_text : Row → List ℕ
row_text r =
    decimal r.from ++ (codes " -> " ++ (decimal r.to ++ (codes " " ++ (letter_text r.letter ++ (codes ", "
    ++ record_text r.minutes r.grade r.parts)))))
