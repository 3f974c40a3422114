-- What a chart keeps: rows that fit, which is its invariant.
use Rattle.std.specs.Prelude.{◌≡◌, ℕ, ◌≤◌, Bool, true, ◌&&◌, List, [], ◌∷◌, map, length, take}
use Rattle.charts.specs.Views.{View, row_of, within_limits, state_row_fits, arc_row_fits}

-- the view of a chart with these state rows, letters and arc rows of twelve bytes each
abbrev pub view_of : List ℕ → ℕ → List (List ℕ) → View
view_of marks letters rows = record {
  states = length marks;
  letters = letters;
  state_rows = marks;
  arc_rows = map row_of rows;
}

-- does every element pass the test?
abbrev pub all : {X : Type 0} → (X → Bool) → List X → Bool
all test [] = true
all test (x ∷ xs) = test x && all test xs

-- the view keeps to the limits, and each of its rows fits
abbrev pub fits : View → Bool
fits v =
    within_limits v.states v.letters (length v.arc_rows) && all state_row_fits v.state_rows
    && all (arc_row_fits v.states v.letters) v.arc_rows

-- the first places of two tables, of 32 and of 512 places, hold the rows of a chart
abbrev pub Held : (states letters arcs : ℕ) → List ℕ → List (List ℕ) → Type 0
Held states letters arcs marks rows =
    (states ≤ 32) × (length (take states marks) ≡ states) × (arcs ≤ 512) × (length (take arcs rows) ≡ arcs)
    × (fits (view_of (take states marks) letters (take arcs rows)) ≡ true)
