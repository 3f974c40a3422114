use Rattle.machines.specs.Meant.{meant}
use Rattle.crossing.proofs.Paired.{CrossedBelow}
use Rattle.crossing.proofs.pair.Pair.write_blocks.Given as goal

abbrev pub invariant-loop-letter : goal.invariant-loop-letter
invariant-loop-letter g l =
    let o = g.K.Weight.ops in
    let meaning = g.K.Weight.meaning in
    CrossedBelow o meaning (meant o meaning l.self.first.now) (meant o meaning l.self.second.now) l.blocks l.letter
