use Rattle.std.proofs.Common.{◌+◌, ◌*◌, ◌<◌, length, sym, refl, ap, ◌∙◌, rules}
use Rattle.machines.proofs.Matrices.{entry_put}
use Rattle.machines.proofs.Places.{weight_read}
use Rattle.machines.proofs.matrix.Matrix.join.Goals as goal

pub returns : goal.returns
returns g c =
    let o = g.K.Weight.ops in
    let meaning = g.K.Weight.meaning in
    let matrix = c.args.self.now in
    let ws = matrix.weights.now in
    let place = c.args.from * matrix.states + c.args.to in
    let long : place < length ws = search rules in
    let read = weight_read o meaning ws place c.index-self-place.result long c.index-self-place.is in
    let weight = meaning c.args.weight in
    record {
      states = refl;
      memory = refl;
      entries = entry_put meaning g.met.K.Weight.laws.plain matrix.states c.args.from c.args.to weight ws c.plus.result c.requires.1 long
          (c.plus.ensures ∙ ap (λ x. o.plus x weight) (sym (read ∙ ap meaning c.index-self-place.is)));
    }

pub offset_bounds-self-place : goal.offset_bounds-self-place
offset_bounds-self-place g c =
    let long : c.args.from * c.args.self.now.states + c.args.to < length c.args.self.now.weights.now = search rules in
    search rules

pub offset_bounds-self-place-2 : goal.offset_bounds-self-place-2
offset_bounds-self-place-2 g c =
    let long : c.args.from * c.args.self.now.states + c.args.to < length c.args.self.now.weights.now = search rules in
    search rules
