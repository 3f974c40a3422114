use Rattle.std.proofs.Common.{◌≡◌, ◌+◌, ◌*◌, length, drop, refl, ap, ◌∙◌, ap₂, arith, rules}
use Rattle.std.proofs.lemmas.Slice.{drop-append-drop}
use Rattle.std.proofs.lemmas.Bool.Decides.{nat_tests}
use Rattle.machines.specs.Shapes.{machine_size}
use Rattle.machines.proofs.Told.{alike_trans, front_alike}
use Rattle.crossing.proofs.cross.Goals as goal

pub returns : goal.returns
returns g c =
    let o = g.K.Weight.ops in
    let meaning = g.K.Weight.meaning in
    let first = c.args.first.now in
    let second = c.args.second.now in
    let d = first.states * second.states in
    let s = c.states.result * c.states-2.result in
    let states : s ≡ d = ap₂ ◌*◌ c.states.ensures.value c.states-2.ensures.value in
    let letters = c.from.ensures ∙ c.letters-3.ensures.value in
    let size : 2 * s + c.from.result * (s * s) ≡ machine_size d first.letters = ap₂ ◌+◌ (ap (◌*◌ 2) states) (ap₂ ◌*◌ letters (ap₂ ◌*◌ states states)) in
    let written = c.write.new.table in
    let whole : length written ≡ 2 * s + c.from.result * (s * s) = search rules in
    let rest = drop (2 * s + c.from.result * (s * s)) c.args.table.now in
    record {
      answers = grind (arith, nat_tests);
      crosses = λ _. alike_trans refl (front_alike o meaning d first.letters written rest (whole ∙ size)) c.write.ensures;
      table_kept = drop-append-drop (2 * s + c.from.result * (s * s)) c.args.table.now written (machine_size d first.letters) (omega arith) whole;
      first_shaped = c.states.ensures.shaped;
      second_shaped = c.states-2.ensures.shaped;
    }
