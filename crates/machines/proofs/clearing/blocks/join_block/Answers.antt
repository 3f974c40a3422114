use Rattle.std.proofs.Common.{◌≡◌, ◌+◌, ◌-◌, ◌*◌, ◌≤◌, length, sym, ap, ◌∙◌, le_refl, arith, rules}
use native.Mathlib.Nat.{add-sub_cancel_left}
use Rattle.charts.specs.Arcs.{row_of_arc, letter_number}
use Rattle.machines.specs.Matrix.{matrix_of}
use Rattle.machines.proofs.Places.{block_fits}
use Rattle.machines.proofs.Added.{arc_joined_behind}
use Rattle.machines.proofs.clearing.blocks.join_block.Goals as goal

pub returns-in-Some : goal.returns-in-Some
returns-in-Some g c =
    let o = g.K.Weight.ops in
    let meaning = g.K.Weight.meaning in
    let d = c.args.closed.now.states in
    let states = c.states-states.ensures in
    let a = c.from.result in
    let spoken : a ≡ letter_number c.args.arc.letter = c.from.ensures ∙ c.get.ensures.value ∙ sym (ap letter_number c.in-Some.is) in
    let begin = (a - 1) * (d * d) in
    let room = block_fits (d * d) a a (omega arith) (le_refl a) in
    let fits : a * (d * d) ≤ length c.args.blocks.now = rw spoken c.requires.fits in
    let long : length c.join_column.new.block ≡ d * d = search rules in
    rw states
    (arc_joined_behind meaning g.met.K.Weight.laws.plain g.K.Weight.weighs (matrix_of o meaning c.args.closed.now) (row_of_arc c.args.arc) d a
    c.from-in-Some.result c.from-in-Some-2.result (begin + d * d - begin) (meaning c.of_arc.result) c.args.blocks.now c.join_column.new.block
    spoken c.from-in-Some.ensures c.from-in-Some-2.ensures c.of_arc.ensures (omega arith) (add-sub_cancel_left begin (d * d))
    fits long (rw states at c.join_column.ensures))
