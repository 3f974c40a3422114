use Rattle.std.proofs.Common.{◌≡◌, ◌*◌, length, refl, rules}
use Rattle.machines.specs.Machine.{crossed}
use Rattle.machines.specs.Meant.{meant}
use Rattle.machines.specs.Shapes.{start_part, end_part}
use Rattle.machines.proofs.Laid.{laid_alike}
use Rattle.crossing.proofs.Paired.{paired_parts}
use Rattle.crossing.proofs.pair.Pair.write.Goals as goal

pub returns : goal.returns
returns g c =
    let o = g.K.Weight.ops in
    let meaning = g.K.Weight.meaning in
    let first = c.args.self.now.first.now in
    let second = c.args.self.now.second.now in
    let xs = c.write_pairs.new.pairs in
    let ys = c.write_pairs-2.new.pairs in
    let starts_long : length xs ≡ first.states * second.states = search rules in
    let ends_long : length ys ≡ first.states * second.states = search rules in
    let starts = paired_parts o meaning {first = start_part first.states first.table} {second = start_part second.states second.table} xs c.starts.ensures.value c.starts-2.ensures.value c.starts.ensures.len c.starts-2.ensures.len c.write_pairs.ensures in
    let ends = paired_parts o meaning {first = end_part first.states first.table} {second = end_part second.states second.table} ys c.ends.ensures.value c.ends-2.ensures.value c.ends.ensures.len c.ends-2.ensures.len c.write_pairs-2.ensures in
    laid_alike o meaning xs ys c.write_blocks.new.blocks starts_long ends_long (crossed o (meant o meaning first) (meant o meaning second)) refl starts ends c.write_blocks.ensures
