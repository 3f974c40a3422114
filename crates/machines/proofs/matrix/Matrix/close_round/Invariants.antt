use Rattle.machines.specs.Closure.{round}
use Rattle.machines.specs.Matrix.{Becomes, matrix_of}
use Rattle.machines.proofs.Matrices.{rows_done}
use Rattle.machines.proofs.matrix.Matrix.close_round.Given as goal

abbrev pub invariant-loop-i : goal.invariant-loop-i
invariant-loop-i g l =
    let o = g.K.Weight.ops in
    let meaning = g.K.Weight.meaning in
    let old = matrix_of o meaning l.initial.self in
    Becomes o meaning l.initial.self l.self (rows_done l.i (round o l.pivot old) old)
