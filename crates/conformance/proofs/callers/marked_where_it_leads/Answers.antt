use Rattle.std.proofs.Common.{◌≡◌, ◌<◌, [], sym, ap, subst, ◌∙◌, arith}
use Rattle.std.specs.Option.{option_map}
use Rattle.std.proofs.lemmas.Option.{slice_get-get_or}
use Rattle.charts.specs.Arcs.{row_of_arc}
use Rattle.charts.specs.Views.{row_of, arc_row}
use Rattle.charts.proofs.Fitting.{fitted}
use Rattle.charts.proofs.Sound.{row_between}
use Rattle.conformance.proofs.callers.marked_where_it_leads.Goals as goal

-- the arc is that of the chart's row, which stands between its states
pub bounds-marks-from : goal.bounds-marks-from
bounds-marks-from c =
    let v = c.args.chart.now in
    let n = c.args.number in
    let h = subst (λ m. n < m) c.arcs.ensures.value c.if-number-arcs.true in
    let is = ap (option_map row_of_arc) (sym c.in-Some.is) ∙ c.arc.ensures.value ∙ slice_get-get_or v.arc_rows n (row_of []) h in
    let same : row_of_arc c.in-Some.arc ≡ arc_row v n = cc in
    let leads = ap (λ r. r.to) same in
    let below = (row_between v c.arc.ensures.fits n h).to_below in
    let few = (fitted v c.arc.ensures.fits).limits.few_states in
    omega (arith, c.from.ensures)
