use Rattle.std.proofs.Common.{◌≡◌, ◌<◌, true, [], map, length, get_or, Some, sym, ap, subst, ◌∙◌}
use Rattle.std.specs.List.{slice_get}
use Rattle.std.proofs.lemmas.List.{length-map, get_or-map}
use Rattle.std.proofs.lemmas.Option.{slice_get-get_or}
use Rattle.std.proofs.lemmas.Bool.{cond-true}
use Rattle.charts.specs.Views.{row_of, arc_row_fits}
use Rattle.charts.specs.Held.{view_of, fits}
use Rattle.charts.proofs.Failing.{all_at}
use Rattle.charts.proofs.Fitting.{fitted}
use Rattle.charts.proofs.reading.Chart.arc.Goals as goal

-- the row's bytes fit, as those of each arc of a chart do
pub returns-clause-value : goal.returns-clause-value
returns-clause-value c =
    let kept = c.tables-tables.result in
    let is = c.tables-tables.ensures.value in
    let rows = map row_of kept.rows.now in
    let found = c.in_ok-row.ensures.lookup.3 in
    let within : c.args.number < length rows = rw (length-map kept.rows.now row_of) found.0 in
    let here : get_or rows c.args.number (row_of []) ≡ row_of c.in_ok-row.row.now =
    get_or-map row_of kept.rows.now c.args.number [] (row_of []) found.0 ∙ ap row_of (sym (found.1 [])) in
    let kept_fits = subst (λ v. fits v ≡ true) (sym is) c.tables-tables.ensures.fits in
    let fit : arc_row_fits (length kept.marks.now) kept.letters (row_of c.in_ok-row.row.now) ≡ true =
    sym (ap (arc_row_fits (length kept.marks.now) kept.letters) here)
    ∙ all_at _ rows c.args.number (row_of []) within (fitted (view_of kept.marks.now kept.letters kept.rows.now) kept_fits).arc_rows in
    c.read_arc.ensures ∙ cond-true _ _ _ fit ∙ ap Some (sym here) ∙ sym (slice_get-get_or rows c.args.number (row_of []) within)
    ∙ ap (λ v. slice_get v.arc_rows c.args.number) is
