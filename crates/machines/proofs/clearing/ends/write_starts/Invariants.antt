use Rattle.std.proofs.Common.{◌≡◌, ℕ, ◌<◌, cond}
use Rattle.charts.specs.Views.{starts}
use Rattle.machines.specs.Tables.{weight_at}
use Rattle.machines.proofs.clearing.ends.write_starts.Given as goal

abbrev pub invariant-loop-i : goal.invariant-loop-i
invariant-loop-i g l =
    let o = g.K.Weight.ops in
    (i : ℕ) → i < l.i → weight_at o g.K.Weight.meaning l.row i ≡ cond (starts l.chart i) o.unit o.nil
