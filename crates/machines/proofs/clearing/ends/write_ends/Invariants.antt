use Rattle.std.proofs.Common.{◌≡◌, ℕ, ◌<◌, cond}
use Rattle.charts.specs.Sums.{sum}
use Rattle.charts.specs.Views.{ends}
use Rattle.machines.specs.Matrix.{matrix_of}
use Rattle.machines.specs.Tables.{weight_at}
use Rattle.machines.proofs.clearing.ends.write_ends.Given as goal

abbrev pub invariant-loop-i : goal.invariant-loop-i
invariant-loop-i g l =
    let o = g.K.Weight.ops in
    let meaning = g.K.Weight.meaning in
    (i : ℕ) → i < l.i →
    weight_at o meaning l.row i ≡ sum o l.closed.states (λ j. cond (ends l.chart j) (matrix_of o meaning l.closed i j) o.nil)
