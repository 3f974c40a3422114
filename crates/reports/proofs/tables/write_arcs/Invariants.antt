use Rattle.std.specs.Fmt.{HasWritten, IsPlainFormatter}
use Rattle.charts.proofs.InOrder.{Reached}
use Rattle.reports.specs.Texts.{arc_line, lines}
use Rattle.reports.proofs.tables.write_arcs.Given as goal

-- the lines of the arcs so far are written, and the others are left
abbrev pub invariant-loop-number : goal.invariant-loop-number
invariant-loop-number g l = record {
  written : IsPlainFormatter l.initial.f → HasWritten g.W.Write.write_str_gives l.initial.f (lines (arc_line l.chart) l.number-iterator.count) l.f;
  left : Reached l.chart.arc_rows l.number-iterator.count l.number-iterator.iter;
}
