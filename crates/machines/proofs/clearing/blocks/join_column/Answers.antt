use Rattle.std.proofs.Common.{ap, ◌∙◌, cond, eqb, refl, arith}
use Rattle.machines.specs.Closure.{Table}
use Rattle.machines.specs.Matrix.{matrix_of, entry_joined}
use Rattle.machines.proofs.Matrices.{rows_joined, becomes_then, entry_more, row_read}
use Rattle.machines.proofs.clearing.blocks.join_column.Goals as goal

pub loop-i-preserved : goal.loop-i-preserved
loop-i-preserved g c =
    let o = g.K.Weight.ops in
    let meaning = g.K.Weight.meaning in
    let closed = c.args.closed.now in
    let made = c.new-matrix.result in
    let i = c.loop-i.i in
    let from = c.args.from in
    let to = c.args.to in
    let weight = meaning c.args.weight in
    let added = meaning c.times-added.result in
    let read = row_read o meaning closed closed.states i from c.row.result.now c.index-row-from.result refl (omega arith) (omega arith) c.row.ensures.value c.index-row-from.is in
    let here = c.times-added.ensures ∙ ap (λ x. o.times x weight) read in
    let adds : Table g.K.Weight.Carrier = λ i k. cond (eqb to k) (o.times (matrix_of o meaning closed i from) weight) o.nil in
    let old = matrix_of o meaning made in
    becomes_then o meaning {t = rows_joined o i adds old} (entry_joined o i to added) c.loop-i.invariant c.join.ensures
    (λ t. entry_more g.met.K.Weight.laws.plain made.states i to added adds old t (λ k. ap (λ x. cond (eqb to k) x o.nil) here))
