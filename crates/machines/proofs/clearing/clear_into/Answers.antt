use Rattle.std.proofs.Common.{◌≡◌, length, sym, refl, ◌∙◌, rules}
use Rattle.charts.specs.Automaton.{automaton}
use Rattle.machines.specs.Machine.{arc_table, cleared_by}
use Rattle.machines.specs.Matrix.{matrix_of}
use Rattle.machines.proofs.Laid.{laid_alike}
use Rattle.machines.proofs.Told.{alike_trans, closed_from, cleared_cong}
use Rattle.machines.proofs.clearing.clear_into.Goals as goal

pub returns : goal.returns
returns g c =
    let o = g.K.Weight.ops in
    let meaning = g.K.Weight.meaning in
    let plain = g.met.K.Weight.laws.plain in
    let d = c.args.chart.now.states in
    let states = c.states-states.ensures.value in
    let a = automaton g.K.Weight.weighs c.args.chart.now in
    let shut = c.close.new.self in
    let xs = c.write_starts.new.row in
    let ys = c.write_ends.new.row in
    let starts_long : length xs ≡ d = search rules in
    let ends_long : length ys ≡ d = search rules in
    let first = sym c.write_starts.auto.row ∙ starts_long in
    let second = sym c.write_ends.auto.row ∙ ends_long in
    let closes = closed_from o meaning d (arc_table o a 0) c.new-matrix.result c.write_silent.new.matrix shut (c.new-matrix.ensures.states ∙ states) c.write_silent.ensures c.close.ensures in
    let written = laid_alike o meaning xs ys c.write_blocks.new.blocks starts_long ends_long (cleared_by o a (matrix_of o meaning shut)) refl
    (rw first at c.write_starts.ensures) (rw second at c.write_ends.ensures) (λ a i k b u h l. c.write_blocks.ensures a i k b h l) in
    alike_trans refl written (cleared_cong plain a closes)
