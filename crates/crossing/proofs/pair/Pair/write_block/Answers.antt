use Rattle.std.proofs.Common.{◌≡◌, ◌+◌, ◌-◌, ◌*◌, ◌<◌, ◌≤◌, length, sym, ◌∙◌, ap₂, add_assoc, arith, rules}
use native.Mathlib.Nat.{add-sub_cancel_left}
use borrow.Author.Rules.{scaled_fits≤}
use Rattle.machines.specs.Shapes.{block_part}
use Rattle.machines.proofs.Places.{length_part, upto_at, upto_put}
use Rattle.crossing.proofs.Paired.{pair_row, pair_row_fits, row_cut}
use Rattle.crossing.proofs.pair.Pair.write_block.Goals as goal

pub loop-q-preserved : goal.loop-q-preserved
loop-q-preserved g c =
    let o = g.K.Weight.ops in
    let meaning = g.K.Weight.meaning in
    let first = c.args.self.now.first.now in
    let second = c.args.self.now.second.now in
    let same = c.args.self.now.same_letters in
    let m = first.states in
    let n = second.states in
    let a = c.args.letter in
    let p = c.loop-p.p in
    let q = c.loop-q.q in
    let d = m * n in
    let i = p * n + q in
    let row = c.write_pairs.new.pairs in
    let rows = c.states-rows.ensures in
    let columns = c.states-columns.ensures in
    let states = c.states-states.ensures.value in
    let code = c.states-states.result in
    let held : length c.loop-q.block ≡ d * d = cc in
    let above : p < m = omega arith in
    let below : q < n = omega arith in
    let fits = pair_row_fits m n columns.value states held above below in
    let upper = row_cut m first.letters a p first.table c.block-first.result.now rows.value (omega arith) (omega arith) above rows.shaped.4 c.block-first.ensures.value in
    let lower = row_cut n second.letters a q second.table c.block-second.result.now columns.value (omega arith) (omega arith) below columns.shaped.4 c.block-second.ensures.value in
    let pairs = pair_row o meaning m n p q (block_part m a first.table) (block_part n a second.table) _ _ row below upper.value lower.value upper.long lower.long
    c.write_pairs.ensures in
    let whole : length row ≡ d = c.write_pairs.auto.pairs ∙ length_part ((p * c.states-columns.result + q) * code) code c.loop-q.block fits ∙ states in
    let room : i * d + d ≤ length c.loop-q.block = rw (columns.value, states) at fits in
    let done = rw (columns.value, states) at c.loop-q.invariant in
    rw (columns.value, states)
    (upto_at (add_assoc (p * n) q 1)
    (upto_put o meaning d i (i * d + d - i * d) c.loop-q.block row (add-sub_cancel_left (i * d) d) (omega arith) whole pairs (λ r x u. tt) done))

pub offset_bounds-block-begin : goal.offset_bounds-block-begin
offset_bounds-block-begin g c =
    let m = c.args.self.now.first.now.states in
    let n = c.args.self.now.second.now.states in
    let rows = c.states-rows.ensures.value in
    let columns = c.states-columns.ensures.value in
    let h = pair_row_fits m n {p = c.loop-p.p} {q = c.loop-q.q} columns c.states-states.ensures.value c.requires.fits (omega arith) (omega arith) in
    let before : (c.loop-p.p * c.states-columns.result + c.loop-q.q) * c.states-states.result ≤ length c.args.block.now = omega arith in
    search scaled_fits≤

pub slice_bounds-write_pairs-end : goal.slice_bounds-write_pairs-end
slice_bounds-write_pairs-end g c =
    let m = c.args.self.now.first.now.states in
    let n = c.args.self.now.second.now.states in
    let rows = c.states-rows.ensures.value in
    let columns = c.states-columns.ensures.value in
    let room : length c.loop-q.block ≡ m * n * (m * n) = cc in
    let h = pair_row_fits m n {p = c.loop-p.p} {q = c.loop-q.q} columns c.states-states.ensures.value room (omega arith) (omega arith) in
    search rules

pub offset_bounds-first-p : goal.offset_bounds-first-p
offset_bounds-first-p g c =
    let first = c.args.self.now.first.now in
    let rows = c.states-rows.ensures in
    let cut = row_cut first.states first.letters c.args.letter c.loop-p.p first.table c.block-first.result.now rows.value (omega arith) (omega arith) (omega arith)
    rows.shaped.4 c.block-first.ensures.value in
    let fits = cut.fits in
    omega arith

pub slice_bounds-first_row-end : goal.slice_bounds-first_row-end
slice_bounds-first_row-end g c =
    let first = c.args.self.now.first.now in
    let rows = c.states-rows.ensures in
    let cut = row_cut first.states first.letters c.args.letter c.loop-p.p first.table c.block-first.result.now rows.value (omega arith) (omega arith) (omega arith)
    rows.shaped.4 c.block-first.ensures.value in
    let fits = cut.fits in
    search rules

pub offset_bounds-second-q : goal.offset_bounds-second-q
offset_bounds-second-q g c =
    let second = c.args.self.now.second.now in
    let columns = c.states-columns.ensures in
    let same = c.args.self.now.same_letters in
    let cut = row_cut second.states second.letters c.args.letter c.loop-q.q second.table c.block-second.result.now columns.value (omega arith) (omega arith) (omega arith)
    columns.shaped.4 c.block-second.ensures.value in
    let fits = cut.fits in
    omega arith

pub slice_bounds-second_row-end : goal.slice_bounds-second_row-end
slice_bounds-second_row-end g c =
    let second = c.args.self.now.second.now in
    let columns = c.states-columns.ensures in
    let same = c.args.self.now.same_letters in
    let cut = row_cut second.states second.letters c.args.letter c.loop-q.q second.table c.block-second.result.now columns.value (omega arith) (omega arith) (omega arith)
    columns.shaped.4 c.block-second.ensures.value in
    let fits = cut.fits in
    search rules

pub write_pairs-requires : goal.write_pairs-requires
write_pairs-requires g c =
    let first = c.args.self.now.first.now in
    let second = c.args.self.now.second.now in
    let same = c.args.self.now.same_letters in
    let m = first.states in
    let n = second.states in
    let a = c.args.letter in
    let p = c.loop-p.p in
    let q = c.loop-q.q in
    let rows = c.states-rows.ensures in
    let columns = c.states-columns.ensures in
    let states = c.states-states.ensures.value in
    let room : length c.loop-q.block ≡ m * n * (m * n) = cc in
    let above : p < m = omega arith in
    let below : q < n = omega arith in
    let fits = pair_row_fits m n columns.value states room above below in
    let upper = row_cut m first.letters a p first.table c.block-first.result.now rows.value (omega arith) (omega arith) above rows.shaped.4 c.block-first.ensures.value in
    let lower = row_cut n second.letters a q second.table c.block-second.result.now columns.value (omega arith) (omega arith) below columns.shaped.4 c.block-second.ensures.value in
    length_part ((p * c.states-columns.result + q) * c.states-states.result) c.states-states.result c.loop-q.block fits
    ∙ states ∙ sym (ap₂ ◌*◌ upper.long lower.long)
