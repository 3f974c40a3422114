use Rattle.std.proofs.Common.{◌≡◌, cond}
use Rattle.charts.specs.Sums.{sum}
use Rattle.charts.specs.Views.{ends}
use Rattle.machines.specs.Tables.{weight_at}
use Rattle.machines.proofs.clearing.ends.end_weight.Given as goal

abbrev pub invariant-loop-j : goal.invariant-loop-j
invariant-loop-j g l =
    let o = g.K.Weight.ops in
    let meaning = g.K.Weight.meaning in
    meaning l.total ≡ sum o l.j (λ j. cond (ends l.chart j) (weight_at o meaning l.row j) o.nil)
