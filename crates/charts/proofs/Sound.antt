-- The arcs of a chart stand between its states.
use Rattle.std.proofs.Common.{◌≡◌, ℕ, ◌<◌, ◌≤◌, true, ◌&&◌, eqb, ltb, leb, List, [], length, sym}
use Rattle.std.proofs.lemmas.Bool.{and_parts, ltb-true, leb-true}
use Rattle.charts.specs.Views.{View, Row, row_of, arc_row, arc_row_fits}
use Rattle.charts.specs.Held.{fits}
use Rattle.charts.specs.Automaton.{automaton, Sound}
use Rattle.charts.proofs.Failing.{all_at}
use Rattle.charts.proofs.Fitting.{fitted}
use Rattle.charts.proofs.InOrder.{Passed}

-- what a row that fits has
pub record Between (states letters : ℕ) (r : Row) : Type 0 where
  pub from_below : r.from < states
  pub to_below : r.to < states
  pub letter_within : r.letter ≤ letters

between : (d l : ℕ) (r : Row) → arc_row_fits d l r ≡ true → Between d l r
between d l r e =
    let ends = ltb r.from d && ltb r.to d in
    let spelled = ends && leb r.letter l in
    let weighed = spelled && eqb r.blank 0 && leb r.minutes 60000 && leb 1 r.grade in
    let seven = and_parts (weighed && leb r.grade 100) _ e in
    let six = and_parts weighed _ seven.0 in
    let five = and_parts (spelled && eqb r.blank 0 && leb r.minutes 60000) _ six.0 in
    let four = and_parts (spelled && eqb r.blank 0) _ five.0 in
    let three = and_parts spelled _ four.0 in
    let two = and_parts ends _ three.0 in
    let one = and_parts (ltb r.from d) _ two.0 in
    record {
      from_below = ltb-true _ _ one.0;
      to_below = ltb-true _ _ one.1;
      letter_within = leb-true _ _ two.1;
    }

-- the rows of a view that fits
pub row_between : (v : View) → fits v ≡ true → (e : ℕ) → e < length v.arc_rows → Between v.states v.letters (arc_row v e)
row_between v f e h = between _ _ _ (all_at _ v.arc_rows e (row_of []) h (fitted v f).arc_rows)

-- the automaton of a view that fits is sound, in every kind
pub sound : {W : Type 0} (weighs : (minutes grade parts : ℕ) → W) (v : View) → fits v ≡ true → Sound (automaton weighs v)
sound weighs v f = record {
  from_below = λ e h. (row_between v f e h).from_below;
  to_below = λ e h. (row_between v f e h).to_below;
  letter_within = λ e h. (row_between v f e h).letter_within;
}

-- the next of a view's rows is that of its number
pub row_passed : (v : View) (n : ℕ) {r : Row} {rest : List Row} → Passed v.arc_rows n r rest → r ≡ arc_row v n
row_passed v n p = sym (p.here (row_of []))

-- so it stands between states
pub passed_between : (v : View) → fits v ≡ true → (n : ℕ) {r : Row} {rest : List Row} → Passed v.arc_rows n r rest → Between v.states v.letters r
passed_between v f n p = rw (row_passed v n p) (row_between v f n p.below)
