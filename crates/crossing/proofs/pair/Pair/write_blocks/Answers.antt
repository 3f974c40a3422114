use Rattle.std.proofs.Common.{◌≡◌, ◌-◌, ◌*◌, ◌≤◌, length, arith, rules}
use borrow.Author.Rules.{scaled_fits≤}
use Rattle.machines.specs.Meant.{meant}
use Rattle.crossing.proofs.Paired.{crossed_letter, pair_block_fits}
use Rattle.crossing.proofs.pair.Pair.write_blocks.Goals as goal

pub loop-letter-preserved : goal.loop-letter-preserved
loop-letter-preserved g c =
    let o = g.K.Weight.ops in
    let meaning = g.K.Weight.meaning in
    let first = c.args.self.now.first.now in
    let second = c.args.self.now.second.now in
    let letters = c.letters-letter-end.ensures in
    let states = first.states * second.states in
    let room : length c.loop-letter.blocks ≡ first.letters * (states * states) = cc in
    crossed_letter o meaning (meant o meaning first) (meant o meaning second) first.letters c.loop-letter.letter c.loop-letter.blocks c.write_block.new.block
    c.states-states.ensures.value c.from.ensures (omega arith) (omega arith) room c.write_block.auto.block c.write_block.ensures c.loop-letter.invariant

-- the last letter
pub returns-2 : goal.returns-2
returns-2 g c a i k b u h l =
    let o = g.K.Weight.ops in
    let meaning = g.K.Weight.meaning in
    let first = c.args.self.now.first.now in
    let second = c.args.self.now.second.now in
    let letters = c.letters-letter-end.ensures in
    let states = first.states * second.states in
    let room : length c.loop-letter.blocks ≡ first.letters * (states * states) = cc in
    (crossed_letter o meaning (meant o meaning first) (meant o meaning second) first.letters c.loop-letter.letter c.loop-letter.blocks c.write_block.new.block
    c.states-states.ensures.value c.from.ensures (omega arith) (omega arith) room c.write_block.auto.block c.write_block.ensures
    c.loop-letter.invariant).before a (omega arith) b i k h l

pub offset_bounds-blocks-begin : goal.offset_bounds-blocks-begin
offset_bounds-blocks-begin g c =
    let letters = c.letters-letter-end.ensures in
    let h = pair_block_fits c.args.self.now.first.now.letters c.from.result _ c.states-states.ensures.value (omega arith) (omega arith) c.requires in
    let size = c.states-states.result * c.states-states.result in
    let l : (c.from.result - 1) * size ≤ length c.args.blocks.now = omega arith in
    search scaled_fits≤

pub slice_bounds-write_block-end : goal.slice_bounds-write_block-end
slice_bounds-write_block-end g c =
    let letters = c.letters-letter-end.ensures in
    let states = c.args.self.now.first.now.states * c.args.self.now.second.now.states in
    let room : length c.loop-letter.blocks ≡ c.args.self.now.first.now.letters * (states * states) = cc in
    let h = pair_block_fits c.args.self.now.first.now.letters c.from.result states c.states-states.ensures.value (omega arith) (omega arith) room in
    search rules
