use Rattle.std.proofs.Common.{◌≡◌, ℕ, ◌<◌, ap, ap₂, ◌∙◌, sym, refl, arith}
use Rattle.std.proofs.lemmas.Bool.{eq-eqb, ne_eqb, cond-true, cond-false}
use Rattle.machines.specs.Closure.{round}
use Rattle.machines.specs.Matrix.{matrix_of, row_joined}
use Rattle.machines.specs.Tables.{weight_at}
use Rattle.machines.proofs.Matrices.{rows_done, becomes_then, rows_more, row_left, row_entry, row_read}
use Rattle.machines.proofs.matrix.Matrix.close_round.Goals as goal

pub loop-i-preserved : goal.loop-i-preserved
loop-i-preserved g c =
    let o = g.K.Weight.ops in
    let meaning = g.K.Weight.meaning in
    let d = c.args.self.now.states in
    let i = c.loop-i.i in
    let j = c.args.pivot in
    let old = matrix_of o meaning c.args.self.now in
    let within : i < d = omega arith in
    let kept = c.copy_from_slice.new.self in
    let lent = c.copy_from_slice.ensures.after ∙ c.row.ensures.value in
    let kept_row : (k : ℕ) → k < d → weight_at o meaning kept k ≡ old j k = λ k h. row_entry o meaning c.args.self.now d j k kept refl h lent in
    let pivot = row_read o meaning c.args.self.now d j j kept c.index-kept-pivot.result refl (omega arith) (omega arith) lent c.index-kept-pivot.is in
    let first = row_read o meaning c.loop-i.self d i j c.row-in-loop-i.result.now c.index-row-pivot.result c.loop-i.invariant.states (omega arith) (omega arith)
    c.row-in-loop-i.ensures.value c.index-row-pivot.is in
    let held = row_left d (round o j old) old i c.loop-i.invariant.entries within j (omega arith) in
    let factor = meaning c.times-factor.result in
    let made : factor ≡ o.times (old i j) (o.star (old j j)) = c.times-factor.ensures ∙ ap₂ o.times (first ∙ held) (c.star-star.ensures ∙ ap o.star pivot) in
    becomes_then o meaning {t = rows_done i (round o j old) old} (row_joined o i factor (weight_at o meaning kept)) c.loop-i.invariant c.join_row.ensures
    (λ t e. rows_more d (round o j old) old i t (row_joined o i factor (weight_at o meaning kept) t) e
    (λ k h left. cond-true _ _ _ (eq-eqb i i refl) ∙ ap₂ o.plus left (ap₂ o.times made (kept_row k h)))
    (λ r k y. cond-false _ _ _ (ne_eqb i r (λ s. y (sym s)))))
