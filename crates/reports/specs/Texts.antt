-- The texts of the reports.
use Rattle.std.specs.Prelude.{ℕ, zero, suc, cond, List, [], ◌++◌, length, Ok, Err, codes, decimal, Result}
use Rattle.charts.specs.Views.{View, Row, arc_row, starts, ends}
use Rattle.charts.specs.Texts.{refusal_text, row_text}
use Rattle.charts.specs.Format.{decoded}
use Rattle.charts.specs.declared.refusals.Refusal.{Refusal}

-- chart 3 states, 2 letters, 5 arcs
abbrev pub first_line : View → List ℕ
first_line v =
    codes "chart " ++ (decimal v.states ++ (codes " states, " ++ (decimal v.letters ++ (codes " letters, "
    ++ (decimal (length v.arc_rows) ++ codes " arcs\n")))))

-- state 0 start end
abbrev pub state_line : View → ℕ → List ℕ
state_line v i =
    codes "state " ++ (decimal i ++ (cond (starts v i) (codes " start") [] ++ (cond (ends v i) (codes " end") [] ++ codes "\n")))

-- arc 0: 0 -> 1 letter 1, 10 minutes, grade 90, parts 00000001
abbrev pub row_line : ℕ → Row → List ℕ
row_line e r = codes "arc " ++ (decimal e ++ (codes ": " ++ (row_text r ++ codes "\n")))

abbrev pub arc_line : View → ℕ → List ℕ
arc_line v e = row_line e (arc_row v e)

-- refused 5 2
abbrev pub refusal_line : Refusal → List ℕ
refusal_line e = codes "refused " ++ (refusal_text e ++ codes "\n")

-- line 0 up to line (n - 1)
abbrev pub lines : (ℕ → List ℕ) → ℕ → List ℕ
lines line zero = []
lines line (suc n) = lines line n ++ line n

-- a chart as it is printed: a first line, and then a line for each state and for each arc
abbrev pub table : View → List ℕ
table v = first_line v ++ (lines (state_line v) v.states ++ lines (arc_line v) (length v.arc_rows))

-- what is printed of a chart, or of a refusal
abbrev pub outcome : Result View Refusal → List ℕ
outcome (Ok v) = table v
outcome (Err e) = refusal_line e

-- what is printed of a file
abbrev pub report : List ℕ → List ℕ
report bs = outcome (decoded bs)
