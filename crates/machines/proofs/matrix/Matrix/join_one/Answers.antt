use Rattle.std.proofs.Common.{ap, ◌∙◌, cond, eqb}
use Rattle.machines.specs.Closure.{diagonal}
use Rattle.machines.specs.Matrix.{matrix_of, entry_joined}
use Rattle.machines.proofs.Matrices.{rows_joined, becomes_then, entry_more}
use Rattle.machines.proofs.matrix.Matrix.join_one.Goals as goal

pub loop-i-preserved : goal.loop-i-preserved
loop-i-preserved g c =
    let o = g.K.Weight.ops in
    let meaning = g.K.Weight.meaning in
    let old = matrix_of o meaning c.args.self.now in
    let i = c.loop-i.i in
    let one = meaning c.ONE.result in
    becomes_then o meaning {t = rows_joined o i (diagonal o) old} (entry_joined o i i one) c.loop-i.invariant c.join.ensures
    (λ t. entry_more g.met.K.Weight.laws.plain c.args.self.now.states i i one (diagonal o) old t (λ k. ap (λ x. cond (eqb i k) x o.nil) (ap meaning c.ONE.ensures ∙ g.met.K.Weight.one_means)))
