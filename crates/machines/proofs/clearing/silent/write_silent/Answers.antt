use Rattle.std.proofs.Common.{ℕ, length, ap, ◌∙◌}
use Rattle.charts.specs.Arcs.{row_of_arc}
use Rattle.charts.specs.Sums.{sum}
use Rattle.charts.specs.Views.{arc_row}
use Rattle.charts.proofs.InOrder.{passed, reached_more, taken_more}
use Rattle.charts.proofs.Sound.{row_passed, passed_between}
use Rattle.machines.specs.Arcs.{arc_adds}
use Rattle.machines.specs.Closure.{Table}
use Rattle.machines.proofs.Added.{sum_more}
use Rattle.machines.proofs.Matrices.{becomes_then}
use Rattle.machines.proofs.clearing.silent.write_silent.Goals as goal

pub join_silent-requires : goal.join_silent-requires
join_silent-requires g c =
    let v = c.args.chart.now in
    let p = passed v.arc_rows (length c.loop-arc.yielded) c.loop-arc.invariant.left c.in-Some.ensures.steps in
    let between = passed_between v c.arcs_in_order-arc-items.ensures.fits _ p in
    rw (c.loop-arc.invariant.joined.states ∙ c.requires) (between.from_below, between.to_below)

pub loop-arc-preserved : goal.loop-arc-preserved
loop-arc-preserved g c =
    let o = g.K.Weight.ops in
    let weighs = g.K.Weight.weighs in
    let v = c.args.chart.now in
    let n = length c.loop-arc.yielded in
    let p = passed v.arc_rows n c.loop-arc.invariant.left c.in-Some.ensures.steps in
    let joined : ℕ → Table g.K.Weight.Carrier = λ n i k. sum o n (λ e. arc_adds o weighs (arc_row v e) 0 i k) in
    rw (taken_more c.loop-arc.yielded c.in-Some.arc) (record {
      joined = becomes_then o g.K.Weight.meaning {t = joined n} (λ t i k. o.plus (t i k) (arc_adds o weighs (row_of_arc c.in-Some.arc) 0 i k))
          c.loop-arc.invariant.joined c.join_silent.ensures
          (λ t e i k h l. sum_more g.K.Weight.meaning g.met.K.Weight.laws.plain n (λ e. arc_adds o weighs (arc_row v e) 0 i k) (e i k h l)
          (ap (λ r. o.plus (t i k) (arc_adds o weighs r 0 i k)) (row_passed v n p)));
      left = reached_more v.arc_rows n p;
    })
