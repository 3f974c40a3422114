use Rattle.std.proofs.Common.{length}
use Rattle.charts.specs.Sums.{sum}
use Rattle.charts.specs.Views.{arc_row}
use Rattle.charts.proofs.InOrder.{Reached}
use Rattle.machines.specs.Arcs.{arc_adds}
use Rattle.machines.specs.Matrix.{Becomes}
use Rattle.machines.proofs.clearing.silent.write_silent.Given as goal

abbrev pub invariant-loop-arc : goal.invariant-loop-arc
invariant-loop-arc g l =
    let o = g.K.Weight.ops in
    record {
      joined : Becomes o g.K.Weight.meaning l.fn.matrix l.matrix
          (λ i k. sum o (length l.yielded) (λ e. arc_adds o g.K.Weight.weighs (arc_row l.chart e) 0 i k));
      left : Reached l.chart.arc_rows (length l.yielded) l.arc-iterator;
    }
