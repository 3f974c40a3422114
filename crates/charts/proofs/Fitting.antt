-- What it is for a view to fit.
use Rattle.std.proofs.Common.{◌≡◌, ℕ, ◌≤◌, true, ◌&&◌, leb, length}
use Rattle.std.proofs.lemmas.Bool.{and_parts, leb-true}
use Rattle.charts.specs.Views.{View, within_limits, state_row_fits, arc_row_fits}
use Rattle.charts.specs.Held.{all, fits}

-- the limits, one by one
pub record Limited (states letters arcs : ℕ) : Type 0 where
  pub some_states : 1 ≤ states
  pub few_states : states ≤ 32
  pub some_letters : 1 ≤ letters
  pub few_letters : letters ≤ 15
  pub few_arcs : arcs ≤ 512

pub limited : (states letters arcs : ℕ) → within_limits states letters arcs ≡ true → Limited states letters arcs
limited d l a e =
    let four = and_parts (leb 1 d && leb d 32 && leb 1 l && leb l 15) (leb a 512) e in
    let three = and_parts (leb 1 d && leb d 32 && leb 1 l) (leb l 15) four.0 in
    let two = and_parts (leb 1 d && leb d 32) (leb 1 l) three.0 in
    let one = and_parts (leb 1 d) (leb d 32) two.0 in
    record {
      some_states = leb-true 1 d one.0;
      few_states = leb-true d 32 one.1;
      some_letters = leb-true 1 l two.1;
      few_letters = leb-true l 15 three.1;
      few_arcs = leb-true a 512 four.1;
    }

-- a view that fits keeps to the limits, and its rows fit
pub record Fitted (v : View) : Type 0 where
  pub limits : Limited v.states v.letters (length v.arc_rows)
  pub state_rows : all state_row_fits v.state_rows ≡ true
  pub arc_rows : all (arc_row_fits v.states v.letters) v.arc_rows ≡ true

pub fitted : (v : View) → fits v ≡ true → Fitted v
fitted v e =
    let limits = within_limits v.states v.letters (length v.arc_rows) in
    let last = and_parts (limits && all state_row_fits v.state_rows) _ e in
    let first = and_parts limits _ last.0 in
    record {
      limits = limited v.states v.letters (length v.arc_rows) first.0;
      state_rows = first.1;
      arc_rows = last.1;
    }
