-- What is known of a file between its fourth question and its rows.
use Rattle.std.specs.Prelude.{◌≡◌, ℕ, ◌≤◌, true, List, length}
use Rattle.charts.specs.Views.{within_limits}
use Rattle.charts.specs.Held.{view_of}
use Rattle.charts.specs.Format.{header, file_view, total_fits, tables_fit}

-- the file is long enough, and its total, its limits and its tables fit
pub record Framed (bs : List ℕ) : Type 0 where
  pub long : 12 ≤ length bs
  pub total : total_fits (header bs) (length bs) ≡ true
  pub limits : within_limits (header bs).states (header bs).letters (header bs).arcs ≡ true
  pub tables : tables_fit (header bs) ≡ true

-- so it is, and these are its letters and its tables
pub record Found (bs : List ℕ) (letters : ℕ) (marks : List ℕ) (rows : List (List ℕ)) : Type 0 where
  pub framed : Framed bs
  pub same_view : view_of marks letters rows ≡ file_view bs
