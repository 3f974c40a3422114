use Rattle.std.proofs.Common.{◌≡◌, ◌+◌, ◌-◌, ◌*◌, length, sym, ap, ◌∙◌, arith, rules}
use native.Mathlib.Nat.{add-sub_cancel_left}
use Rattle.machines.specs.Tables.{weight_at}
use Rattle.crossing.proofs.Paired.{rows_paired}
use Rattle.machines.proofs.Places.{row_fits, upto_none, upto_put, weight_read}
use Rattle.crossing.proofs.pair.writing.write_pairs.Goals as goal

pub loop-p-init : goal.loop-p-init
loop-p-init g c = upto_none (λ r. tt)

pub loop-p-preserved : goal.loop-p-preserved
loop-p-preserved g c =
    let o = g.K.Weight.ops in
    let meaning = g.K.Weight.meaning in
    let p = c.loop-p.p in
    let n = length c.args.second.now in
    let row = c.set_multiple.new.row in
    let fits = row_fits n (c.loop-p.auto.pairs ∙ c.requires) c.loop-p-test.true in
    let factor = weight_read o meaning c.args.first.now p c.index-first-p.result (omega arith) c.index-first-p.is in
    let long : length row ≡ n = search rules in
    upto_put o meaning n p (p * n + n - p * n) c.loop-p.pairs row (add-sub_cancel_left (p * n) n) (omega arith) long
    (λ q h. c.set_multiple.ensures q h ∙ ap (λ x. o.times x (weight_at o meaning c.args.second.now q)) (sym factor)) (λ r x u. tt) c.loop-p.invariant

pub returns : goal.returns
returns g c =
    rows_paired g.K.Weight.ops g.K.Weight.meaning c.args.first.now c.args.second.now c.loop-p.pairs
    (λ r h. c.loop-p.invariant.before r (omega arith))

pub overflow_mul-begin : goal.overflow_mul-begin
overflow_mul-begin g c = let h = row_fits (length c.args.second.now) (c.loop-p.auto.pairs ∙ c.requires) c.loop-p-test.true in search rules

pub overflow_add-begin : goal.overflow_add-begin
overflow_add-begin g c = let h = row_fits (length c.args.second.now) (c.loop-p.auto.pairs ∙ c.requires) c.loop-p-test.true in search rules

pub offset_bounds-pairs-begin : goal.offset_bounds-pairs-begin
offset_bounds-pairs-begin g c = let h = row_fits (length c.args.second.now) (c.loop-p.auto.pairs ∙ c.requires) c.loop-p-test.true in search rules

pub slice_bounds-set_multiple-end : goal.slice_bounds-set_multiple-end
slice_bounds-set_multiple-end g c = let h = row_fits (length c.args.second.now) (c.loop-p.auto.pairs ∙ c.requires) c.loop-p-test.true in search rules
