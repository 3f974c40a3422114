use Rattle.std.proofs.Common.{◌*◌, refl, ◌∙◌, arith}
use native.Mathlib.Nat.{add-sub_cancel_left}
use Rattle.machines.proofs.Matrices.{row_put}
use Rattle.machines.proofs.Places.{row_fits, length_part}
use Rattle.machines.proofs.matrix.Matrix.join_row.Goals as goal

pub returns : goal.returns
returns g c =
    let d = c.args.self.now.states in
    let i = c.args.state in
    let ws = c.args.self.now.weights.now in
    let fits = row_fits d c.args.self.now.square.1 c.requires.0 in
    let long = c.join_multiple.auto.row ∙ length_part (i * d) d ws fits in
    record { states = refl; memory = refl; entries = row_put g.K.Weight.ops g.K.Weight.meaning d i _ ws c.join_multiple.new.row c.args.other.now (g.K.Weight.meaning c.args.factor) (add-sub_cancel_left (i * d) d) (omega arith) long c.requires.1 c.join_multiple.ensures }
