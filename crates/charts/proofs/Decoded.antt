-- What a file holds, once its first four questions are passed.
use Rattle.std.proofs.Common.{◌≡◌, ℕ, zero, suc, ◌+◌, ◌-◌, ◌<◌, ◌≤◌, true, false, eqb, List, [], ◌∷◌, map, length, take, drop, Some, None, Err, Option, sym, refl, ap, ◌∙◌, subst, ap₂, arith}
use Rattle.std.specs.Simd.{first_chunks}
use Rattle.std.proofs.lemmas.List.{drop-drop, length-drop, length-map, length-take-le}
use Rattle.std.proofs.lemmas.Bool.Decides.{nat_tests}
use Rattle.std.proofs.lemmas.Bool.{and_parts, and_from, le-leb, eqb-true}
use Rattle.charts.specs.Views.{View, row_of, within_limits, state_row_fits, arc_row_fits}
use Rattle.charts.specs.Held.{view_of, fits}
use Rattle.charts.specs.Format.{header, file_view, total_fits, tables_fit, first_failing, first_refusal, unrefused, decoded}
use Rattle.charts.specs.Tabled.{Framed, Found}
use Rattle.charts.specs.declared.reading.header.Header.{Header}
use Rattle.charts.specs.declared.refusals.Refusal.{Refusal}
use Rattle.charts.specs.declared.refusals.Refusal.TheVariants.{Total, StateRow, ArcRow}
use Rattle.charts.proofs.Failing.{all_pass}
use Rattle.charts.proofs.Fitting.{limited}
use Rattle.charts.proofs.Tabled.{tables_inside}

-- the first four questions are passed where the header that was read passes its own
framed : {bs : List ℕ} (h : Header) → 12 ≤ length bs → h ≡ header bs → total_fits h (length bs) ≡ true
    → within_limits h.states h.letters h.arcs ≡ true → tables_fit h ≡ true → Framed bs
framed {bs} h long is total limits tables = record {
  long = long;
  total = subst (λ g. total_fits g (length bs) ≡ true) is total;
  limits = subst (λ g. within_limits g.states g.letters g.arcs ≡ true) is limits;
  tables = subst (λ g. tables_fit g ≡ true) is tables;
}

-- then the rows decide
pub decoded_framed : (bs : List ℕ) → Framed bs
    → decoded bs ≡ unrefused (first_refusal (first_failing state_row_fits StateRow 0 (file_view bs).state_rows
    ∷ first_failing (arc_row_fits (header bs).states (header bs).letters) ArcRow 0 (file_view bs).arc_rows ∷ [])) (file_view bs)
decoded_framed bs f = rw (le-leb 12 (length bs) f.long, f.total, f.limits, f.tables)

-- what lies behind the header, from a place behind it on
behind : (bs : List ℕ) (i : ℕ) → 12 ≤ i → drop (i - 12) (drop 12 bs) ≡ drop i bs
behind bs i h = let back : 12 + (i - 12) ≡ i = omega arith in drop-drop (i - 12) 12 bs ∙ ap (λ k. drop k bs) back

-- the last question decides alone
last_decides : (q : Option Refusal) → first_refusal (q ∷ []) ≡ q
last_decides None = refl
last_decides (Some e) = refl

length_chunked : {X : Type 0} (w n : ℕ) (xs : List X) → length (first_chunks w n xs) ≡ n
length_chunked w zero xs = refl
length_chunked w (suc n) xs = ap suc (length_chunked w n (drop w xs))

-- the tables that lie where the header says have the view of the file
view_found : {bs marks : List ℕ} {rows : List (List ℕ)} (h : Header) (rest : List ℕ) → Framed bs → h ≡ header bs
    → rest ≡ drop 12 bs → marks ≡ take h.states (drop (h.marks - 12) rest)
    → rows ≡ first_chunks 12 h.arcs (drop (h.rows - 12) rest) → view_of marks h.letters rows ≡ file_view bs
view_found {bs} {marks} h rest f is rest_is marks_are rows_are =
    let p = tables_inside (header bs) f.tables in
    let total = eqb-true (header bs).total (length bs) (and_parts (eqb (header bs).total (length bs)) _ f.total).0 in
    let within : (header bs).states ≤ length (drop (header bs).marks bs) = simp length-drop (omega arith) in
    let marks_found = marks_are ∙ ap₂ (λ g r. take g.states (drop (g.marks - 12) r)) is rest_is ∙ ap (take (header bs).states) (behind bs _ p.marks_behind) in
    let rows_found = rows_are ∙ ap₂ (λ g r. first_chunks 12 g.arcs (drop (g.rows - 12) r)) is rest_is ∙ ap (first_chunks 12 (header bs).arcs) (behind bs _ p.rows_behind) in
    let states_found : length marks ≡ (header bs).states = ap length marks_found ∙ length-take-le _ _ within in
    λ i. record {
      states = states_found i;
      letters = (is i).letters;
      state_rows = marks_found i;
      arc_rows = map row_of (rows_found i);
    }

-- so these are the letters and the tables of the file
pub found : {bs marks : List ℕ} {rows : List (List ℕ)} (h : Header) (rest : List ℕ) → 12 ≤ length bs → h ≡ header bs → total_fits h (length bs) ≡ true
    → within_limits h.states h.letters h.arcs ≡ true → tables_fit h ≡ true → rest ≡ drop 12 bs → marks ≡ take h.states (drop (h.marks - 12) rest)
    → rows ≡ first_chunks 12 h.arcs (drop (h.rows - 12) rest) → Found bs h.letters marks rows
found h rest long is total limits tables rest_is marks_are rows_are =
    let passed = framed h long is total limits tables in
    record { framed = passed; same_view = view_found h rest passed is rest_is marks_are rows_are }

module _ {bs : List ℕ} {letters : ℕ} {marks : List ℕ} {rows : List (List ℕ)} (found : Found bs letters marks rows) where
  limits_are : within_limits (length marks) letters (length (map row_of rows)) ≡ true
  limits_are =
      let arcs : length (file_view bs).arc_rows ≡ (header bs).arcs = length-map _ row_of ∙ length_chunked 12 (header bs).arcs _ in
      ap (λ w. within_limits w.states w.letters (length w.arc_rows)) found.same_view
      ∙ ap (within_limits (header bs).states (header bs).letters) arcs ∙ found.framed.limits

  few_states : length marks ≤ 32
  few_states = (limited (length marks) letters (length (map row_of rows)) limits_are).few_states

  few_arcs : length rows ≤ 512
  few_arcs = subst (λ n. n ≤ 512) (length-map rows row_of) (limited (length marks) letters (length (map row_of rows)) limits_are).few_arcs

  -- there are no more of them than a chart may have
  pub few : (length marks ≤ 32) × (length rows ≤ 512)
  few = (few_states, few_arcs)

  -- a state row that fails refuses the file
  pub decoded_states : {e : Refusal} → first_failing state_row_fits StateRow 0 marks ≡ Some e → decoded bs ≡ Err e
  decoded_states {e} fails =
      let q : first_failing state_row_fits StateRow 0 (file_view bs).state_rows ≡ Some e =
      sym (ap (λ w. first_failing state_row_fits StateRow 0 w.state_rows) found.same_view) ∙ fails in
      decoded_framed bs found.framed ∙ rw q

  module _ (states_pass : first_failing state_row_fits StateRow 0 marks ≡ None) where
    -- where none fails, the arc rows decide
    pub decoded_arcs : {o : Option Refusal} → first_failing (arc_row_fits (length marks) letters) ArcRow 0 (map row_of rows) ≡ o
        → decoded bs ≡ unrefused o (view_of marks letters rows)
    decoded_arcs {o} arcs_say =
        let q : first_failing state_row_fits StateRow 0 (file_view bs).state_rows ≡ None =
        sym (ap (λ w. first_failing state_row_fits StateRow 0 w.state_rows) found.same_view) ∙ states_pass in
        let arcs_asked : View → Option Refusal = λ w. first_failing (arc_row_fits w.states w.letters) ArcRow 0 w.arc_rows in
        let last = ap (λ r. unrefused r (file_view bs)) (last_decides (arcs_asked (file_view bs))) in
        decoded_framed bs found.framed ∙ rw q last ∙ ap (λ w. unrefused (arcs_asked w) w) (sym found.same_view)
        ∙ ap (λ r. unrefused r (view_of marks letters rows)) arcs_say

    -- and where none of those fails, the view fits
    pub fits_found : first_failing (arc_row_fits (length marks) letters) ArcRow 0 (map row_of rows) ≡ None
        → fits (view_of marks letters rows) ≡ true
    fits_found arcs_pass =
        let states = all_pass state_row_fits StateRow 0 marks states_pass in
        let arcs = all_pass (arc_row_fits (length marks) letters) ArcRow 0 (map row_of rows) arcs_pass in
        and_from _ _ (and_from _ _ limits_are states) arcs

-- a file that is too long is refused for its total, whatever it holds
pub decoded_long : (bs : List ℕ) → 8192 < length bs → decoded bs ≡ Err Total
decoded_long bs h =
    let fails : total_fits (header bs) (length bs) ≡ false = grind (arith, nat_tests) in
    rw (le-leb 12 (length bs) (omega arith), fails)
