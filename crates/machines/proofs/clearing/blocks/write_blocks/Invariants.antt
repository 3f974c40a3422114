use Rattle.std.proofs.Common.{length}
use Rattle.charts.specs.Sums.{sum}
use Rattle.charts.specs.Views.{arc_row}
use Rattle.charts.proofs.InOrder.{Reached}
use Rattle.machines.specs.Arcs.{arc_adds_behind, block_entry, Blocks}
use Rattle.machines.specs.Matrix.{matrix_of}
use Rattle.machines.proofs.clearing.blocks.write_blocks.Given as goal

abbrev pub invariant-loop-arc : goal.invariant-loop-arc
invariant-loop-arc g l =
    let o = g.K.Weight.ops in
    let meaning = g.K.Weight.meaning in
    let d = l.chart.states in
    record {
      joined : Blocks d (block_entry o meaning d l.blocks)
          (λ c i k. sum o (length l.yielded) (λ e. arc_adds_behind o g.K.Weight.weighs (matrix_of o meaning l.closed) (arc_row l.chart e) c i k));
      left : Reached l.chart.arc_rows (length l.yielded) l.arc-iterator;
    }
