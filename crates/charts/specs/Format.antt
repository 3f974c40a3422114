-- The format of a chart's file: what its bytes say, and which question refuses a file that is no chart.
use Rattle.std.specs.Prelude.{ℕ, zero, suc, ◌+◌, ◌*◌, Bool, true, false, cond, not, ◌&&◌, List, [], ◌∷◌, map, length, take, drop, Some, None, Ok, Err, Option, Result, ◌==◌, nat_le, nat_lt}
use Rattle.std.specs.Simd.{first_chunks}
use Rattle.charts.specs.Views.{View, two, row_of, within_limits, state_row_fits, arc_row_fits}
use Rattle.charts.specs.declared.reading.header.Header.{Header}
use Rattle.charts.specs.declared.refusals.Refusal.{Refusal}
use Rattle.charts.specs.declared.refusals.Refusal.TheVariants.{ShortFile, Total, Limits, Tables, StateRow, ArcRow}

-- the first twelve bytes are six numbers of two bytes: how many states, letters and arcs, where the state table and the
-- arc table begin, and the file's total length
abbrev pub header : List ℕ → Header
header bs = record {
  states = two bs 0;
  letters = two bs 2;
  arcs = two bs 4;
  marks = two bs 6;
  rows = two bs 8;
  total = two bs 10;
}

-- the chart that a file holds: a byte for each state, and twelve for each arc
abbrev pub file_view : List ℕ → View
file_view bs = record {
  states = (header bs).states;
  letters = (header bs).letters;
  state_rows = take (header bs).states (drop (header bs).marks bs);
  arc_rows = map row_of (first_chunks 12 (header bs).arcs (drop (header bs).rows bs));
}

-- is the header's total the file's length, and at most 8,192?
abbrev pub total_fits : Header → (length : ℕ) → Bool
total_fits h n = h.total == n && nat_le h.total 8192

-- does a table of n bytes lie between the header and the end?
abbrev pub inside : (offset n total : ℕ) → Bool
inside offset n total = nat_le 12 offset && nat_le (offset + n) total

-- is byte i one of a table's n bytes?
abbrev pub in_table : (offset n i : ℕ) → Bool
in_table offset n i = nat_le offset i && nat_lt i (offset + n)

-- is no byte below n in both tables?
abbrev pub share_none : (p q : ℕ → Bool) (n : ℕ) → Bool
share_none p q zero = true
share_none p q (suc n) = not (p n && q n) && share_none p q n

-- do both tables lie between the header and the end, sharing no byte?
abbrev pub tables_fit : Header → Bool
tables_fit h =
    inside h.marks h.states h.total && inside h.rows (12 * h.arcs) h.total
    && share_none (in_table h.marks h.states) (in_table h.rows (12 * h.arcs)) h.total

-- a refusal where the answer is no
abbrev pub unless : Bool → Refusal → Option Refusal
unless true e = None
unless false e = Some e

-- a refusal where an element fails the test, with the place of the first that does; the places count from n
abbrev pub first_failing : {X : Type 0} → (X → Bool) → (ℕ → Refusal) → ℕ → List X → Option Refusal
first_failing test refusal n [] = None
first_failing test refusal n (x ∷ xs) = cond (test x) (first_failing test refusal (n + 1) xs) (Some (refusal n))

-- what each question of a file says, in their order
abbrev pub questions : List ℕ → List (Option Refusal)
questions bs =
    unless (nat_le 12 (length bs)) ShortFile
    ∷ unless (total_fits (header bs) (length bs)) Total
    ∷ unless (within_limits (header bs).states (header bs).letters (header bs).arcs) Limits
    ∷ unless (tables_fit (header bs)) Tables
    ∷ first_failing state_row_fits StateRow 0 (file_view bs).state_rows
    ∷ first_failing (arc_row_fits (header bs).states (header bs).letters) ArcRow 0 (file_view bs).arc_rows
    ∷ []

-- the first question that refuses decides
abbrev pub first_refusal : List (Option Refusal) → Option Refusal
first_refusal [] = None
first_refusal (None ∷ qs) = first_refusal qs
first_refusal (Some e ∷ qs) = Some e

-- the refusal, or the value where there is none
abbrev pub unrefused : {X : Type 0} → Option Refusal → X → Result X Refusal
unrefused None x = Ok x
unrefused (Some e) x = Err e

-- what reading answers
abbrev pub decoded : List ℕ → Result View Refusal
decoded bs = unrefused (first_refusal (questions bs)) (file_view bs)
