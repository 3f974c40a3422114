use Rattle.std.proofs.Common.{cond, eqb}
use Rattle.machines.specs.Matrix.{Becomes, matrix_of}
use Rattle.machines.proofs.Matrices.{rows_joined}
use Rattle.machines.proofs.clearing.blocks.join_column.Given as goal

abbrev pub invariant-loop-i : goal.invariant-loop-i
invariant-loop-i g l =
    let o = g.K.Weight.ops in
    let meaning = g.K.Weight.meaning in
    Becomes o meaning l.initial.matrix l.matrix
    (rows_joined o l.i (λ i k. cond (eqb l.to k) (o.times (matrix_of o meaning l.closed i l.from) (meaning l.weight)) o.nil) (matrix_of o meaning l.initial.matrix))
