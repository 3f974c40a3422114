-- Arcs taken one by one behind a table make the table times the arcs.
use Rattle.std.proofs.Common.{◌≡◌, ℕ, ◌<◌, Bool, true, false, cond, ◌&&◌, eqb, sym, ◌∙◌}
use Rattle.weights.specs.Semiring.{Ops, Plain}
use Rattle.charts.specs.Sums.{sum}
use Rattle.charts.specs.Automaton.{Automaton, Sound}
use Rattle.machines.specs.Closure.{Table}
use Rattle.machines.specs.Machine.{cleared_by}
use Rattle.machines.proofs.Sums.{times_cond, sum_cong, sum_swap, sum_pick, times_sum}

module _ {W : Type 0} {o : Ops W} (plain : Plain o) where
  open o use {nil, times}
  open plain use {times_nil}

  -- of three tests the middle one may be asked first
  tested : (l p t : Bool) (x w : W) → times x (cond (l && p && t) w nil) ≡ cond p (cond (l && t) (times x w) nil) nil
  tested true true t x w = times_cond plain t x w
  tested true false t x w = times_nil x
  tested false true t x w = times_nil x
  tested false false t x w = times_nil x

  -- the join of the arcs, each behind the table's entry for where it begins, is the entry of the block
  pub arcs_behind : (a : Automaton W) → Sound a → (e : Table W) (c i k : ℕ) →
      sum o a.arcs (λ n. cond (eqb (a.letter n) c && eqb (a.to n) k) (times (e i (a.from n)) (a.weight n)) nil) ≡ (cleared_by o a e).block c i k
  arcs_behind a sound e c i k =
      let spells : ℕ → Bool = λ n. eqb (a.letter n) c in
      let enters : ℕ → Bool = λ n. eqb (a.to n) k in
      let one : (n : ℕ) → n < a.arcs →
      sum o a.states (λ j. times (e i j) (cond (spells n && eqb (a.from n) j && enters n) (a.weight n) nil))
      ≡ cond (spells n && enters n) (times (e i (a.from n)) (a.weight n)) nil =
      λ n h. sum_cong plain a.states (λ j _. tested (spells n) (eqb (a.from n) j) (enters n) (e i j) (a.weight n))
      ∙ sum_pick plain a.states (a.from n) (λ j. cond (spells n && enters n) (times (e i j) (a.weight n)) nil) (sound.from_below n h) in
      sym (sum_cong plain a.states (λ j _. times_sum plain a.arcs (e i j) (λ n. cond (spells n && eqb (a.from n) j && enters n) (a.weight n) nil))
      ∙ sum_swap plain a.states a.arcs (λ j n. times (e i j) (cond (spells n && eqb (a.from n) j && enters n) (a.weight n) nil))
      ∙ sum_cong plain a.arcs one)
