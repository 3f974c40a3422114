use Rattle.std.proofs.Common.{◌≡◌, true, [], refl, sym, ap₂}
use Rattle.charts.specs.Arcs.{row_of_arc}
use Rattle.charts.specs.Views.{row_of}
use Rattle.charts.proofs.InOrder.{passed, reached_more, reached_end}
use Rattle.reports.specs.Texts.{arc_line, row_line}
use Rattle.reports.proofs.Lined.{line_written}
use Rattle.reports.proofs.tables.write_arcs.Goals as goal

pub loop-number-preserved : goal.loop-number-preserved
loop-number-preserved g c =
    let v = c.args.chart.now in
    let n = c.loop-number.number-iterator.count in
    let step = c.in-Some.ensures.steps in
    let p = passed v.arc_rows n c.loop-number.invariant.left step.0 in
    let text = row_line c.in-Some.number (row_of_arc c.in-Some.arc) in
    let same : text ≡ arc_line v n = ap₂ row_line step.1 (sym (p.here (row_of []))) in
    rw step.2 (record {
      written = λ plain.
          let so_far = c.loop-number.invariant.written plain in
          line_written {h = c.writeln.new.self} (arc_line v) n {bs = text} so_far (c.in_ok-writeln.ensures.writes so_far.plain (refl {a = true})) same;
      left = reached_more v.arc_rows n p;
    })

pub returns : goal.returns
returns g c =
    let v = c.args.chart.now in
    let all = reached_end v.arc_rows c.loop-number.number-iterator.count c.loop-number.invariant.left c.in-None.ensures.steps.0.0 in
    λ plain done. rw (← all) (c.loop-number.invariant.written plain)
