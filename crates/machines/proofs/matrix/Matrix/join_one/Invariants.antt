use Rattle.machines.specs.Closure.{diagonal}
use Rattle.machines.specs.Matrix.{Becomes, matrix_of}
use Rattle.machines.proofs.Matrices.{rows_joined}
use Rattle.machines.proofs.matrix.Matrix.join_one.Given as goal

abbrev pub invariant-loop-i : goal.invariant-loop-i
invariant-loop-i g l =
    let o = g.K.Weight.ops in
    let meaning = g.K.Weight.meaning in
    Becomes o meaning l.initial.self l.self (rows_joined o l.i (diagonal o) (matrix_of o meaning l.initial.self))
