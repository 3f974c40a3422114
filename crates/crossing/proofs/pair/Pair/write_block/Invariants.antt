use Rattle.std.proofs.Common.{◌+◌, ◌*◌}
use Rattle.machines.specs.Machine.{crossed}
use Rattle.machines.specs.Meant.{meant}
use Rattle.machines.proofs.Places.{Upto, RowIs}
use Rattle.crossing.proofs.pair.Pair.write_block.Given as goal

abbrev pub invariant-loop-p : goal.invariant-loop-p
invariant-loop-p g l =
    let o = g.K.Weight.ops in
    let meaning = g.K.Weight.meaning in
    let pairs = (crossed o (meant o meaning l.self.first.now) (meant o meaning l.self.second.now)).block l.letter in
    Upto (λ r. RowIs o meaning l.states l.block r (pairs r)) (λ r. Unit) (l.p * l.columns)

abbrev pub invariant-loop-q : goal.invariant-loop-q
invariant-loop-q g l =
    let o = g.K.Weight.ops in
    let meaning = g.K.Weight.meaning in
    let pairs = (crossed o (meant o meaning l.self.first.now) (meant o meaning l.self.second.now)).block l.letter in
    Upto (λ r. RowIs o meaning l.states l.block r (pairs r)) (λ r. Unit) (l.p * l.columns + l.q)
