use Rattle.std.proofs.Common.{◌*◌, ◌∙◌}
use Rattle.machines.specs.Machine.{crossed}
use Rattle.machines.specs.Meant.{machine_of, meant}
use Rattle.machines.proofs.Bridges.{told_cong}
use Rattle.crossing.proofs.Crossed.{told_crossed}
use Rattle.crossing.proofs.cross_commutative.Goals as goal

pub returns : goal.returns
returns g c =
    let o = g.K.Weight.ops in
    let meaning = g.K.Weight.meaning in
    let plain = g.met.K.Weight.laws.plain in
    let first = c.args.first.now in
    let x = meant o meaning first in
    let y = meant o meaning c.args.second.now in
    let z = machine_of o meaning (x.states * y.states) x.letters c.cross.new.table in
    record {
      answers = c.cross.ensures.answers;
      crosses = c.cross.ensures.crosses;
      multiplies = λ ok w h. told_cong plain z (crossed o x y) (c.cross.ensures.crosses ok) w h ∙ told_crossed plain g.met.K.Commutative.times_commutes x y w;
      table_kept = c.cross.ensures.table_kept;
      first_shaped = c.cross.ensures.first_shaped;
      second_shaped = c.cross.ensures.second_shaped;
    }
