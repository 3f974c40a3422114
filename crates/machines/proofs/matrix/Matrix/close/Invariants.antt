use Rattle.machines.specs.Closure.{rounds}
use Rattle.machines.specs.Matrix.{Becomes, matrix_of}
use Rattle.machines.proofs.matrix.Matrix.close.Given as goal

abbrev pub invariant-loop-pivot : goal.invariant-loop-pivot
invariant-loop-pivot g l =
    let o = g.K.Weight.ops in
    let meaning = g.K.Weight.meaning in
    Becomes o meaning l.initial.self l.self (rounds o l.pivot (matrix_of o meaning l.initial.self))
