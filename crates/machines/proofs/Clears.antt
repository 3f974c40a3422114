-- The cleared chart tells the settled sum of its letters.
use Rattle.std.proofs.Common.{◌≡◌, ℕ, zero, suc, ◌+◌, ◌≤◌, List, [], ◌∷◌, reverse, sym, refl, ◌∙◌, arith}
use mathlib.Core.List.{reverse_aux}
use Rattle.weights.specs.Semiring.{Ops, Plain, Laws}
use Rattle.charts.specs.Automaton.{Automaton, Sound, Spoken, Settled, sum_up_to}
use Rattle.machines.specs.Machine.{arc_table, silent_closure, cleared, cleared_by, row, told}
use Rattle.machines.specs.Closure.{Table, ClosesUniformly}
use Rattle.machines.proofs.Closes.{closes_uniformly}
use Rattle.machines.proofs.Sums.{sum_cong, times_test}
use Rattle.machines.proofs.Order.{Part, part_nil, part_refl, part_along, part_antisym, part_plus}
use Rattle.machines.proofs.Rows.{dot, act, fewer, PartAll, column_cong, part_dot, dot_assoc, dot_nil}
use Rattle.machines.proofs.Rows.{act_fewer, act_enough, act_closed}
use Rattle.machines.proofs.Paths.{under, step, ends, onward, under_step, sum_by_start}

-- what comes after the silent arcs: the end, or an arc that spells the first letter and then the cleared rest
abbrev landed : {W : Type 0} → Ops W → Automaton W → Table W → List ℕ → ℕ → W
landed o a e [] = ends o a
landed o a e (c ∷ w) = step o a c (act o a.states e (landed o a e w))

-- what the cleared chart gives for the word w from each state
abbrev worth : {W : Type 0} → Ops W → Automaton W → Table W → List ℕ → ℕ → W
worth o a e w = act o a.states e (landed o a e w)

-- from some number of arcs on, the worth of w is part of what fewer arcs than that give
abbrev Reached : {W : Type 0} → Ops W → Automaton W → Table W → List ℕ → Type 0
Reached o a e w = (n : ℕ) × ((m : ℕ) → n ≤ m → PartAll o a.states (worth o a e w) (under o a m w))

-- spoken letters put before spoken letters, the last one first
spoken_reverse : (u w : List ℕ) → Spoken u → Spoken w → Spoken (reverse_aux u w)
spoken_reverse [] w h k = k
spoken_reverse (c ∷ u) w h k = spoken_reverse u (c ∷ w) h.1 (h.0, k)

module _ {W : Type 0} {o : Ops W} (laws : Plain o) (a : Automaton W) (e : Table W) where
  -- the block of a letter, applied to the worth of a word, is the worth of both
  block_worth : (c : ℕ) (w : List ℕ) (i : ℕ) →
      act o a.states ((cleared_by o a e).block c) (worth o a e w) i ≡ worth o a e (c ∷ w) i
  block_worth c w i = dot_assoc laws a.states (e i) (arc_table o a c) (worth o a e w)

  -- the letters of the row may be given to the word
  row_worth : (u w : List ℕ) →
      dot o a.states (row o (cleared_by o a e) u) (worth o a e w)
      ≡ dot o a.states (cleared_by o a e).start (worth o a e (reverse_aux u w))
  row_worth [] w = refl
  row_worth (c ∷ u) w =
      dot_assoc laws a.states (row o (cleared_by o a e) u) ((cleared_by o a e).block c) (worth o a e w)
      ∙ column_cong laws a.states (row o (cleared_by o a e) u) (λ i _. block_worth c w i)
      ∙ row_worth u (c ∷ w)

  -- the end weights of the cleared chart are the worth of no letters
  final_worth : (i : ℕ) → (cleared_by o a e).final i ≡ worth o a e [] i
  final_worth i = sum_cong laws a.states (λ j _. sym (times_test laws (a.final j) (e i j)))

  -- what is told is the start chained with the worth of the word
  told_worth : (u : List ℕ) → told o (cleared_by o a e) u ≡ dot o a.states (cleared_by o a e).start (worth o a e (reverse u))
  told_worth u = column_cong laws a.states (row o (cleared_by o a e) u) (λ i _. final_worth i) ∙ row_worth u []

  module _ (sound : Sound a) (closing : ClosesUniformly o a.states (arc_table o a 0) e) where
    -- where what fewer than m arcs give is part of the worth, what comes after the silent arcs is part of what should
    onward_part : (m : ℕ) → ((w : List ℕ) → Spoken w → PartAll o a.states (under o a m w) (worth o a e w)) →
        (w : List ℕ) → Spoken w → (i : ℕ) → Part o (onward o a m w i) (landed o a e w i)
    onward_part m g [] h i = part_refl laws
    onward_part m g (c ∷ w) h i = part_dot laws a.states (arc_table o a c i) (g w h.1)

    -- what any number of arcs gives is part of the worth
    under_part : (m : ℕ) (w : List ℕ) → Spoken w → PartAll o a.states (under o a m w) (worth o a e w)
    under_part zero w h i l = part_nil laws
    under_part (suc m) w h i l =
        let on = part_dot laws a.states (arc_table o a 0 i) (under_part m w h) in
        let all = part_plus laws (onward_part m (under_part m) w h i) on in
        let whole = act_closed laws a.states (arc_table o a 0) e closing (landed o a e w) i l in
        part_along laws (under_step laws a sound m w h i) all (sym whole)

    module _ (w : List ℕ) (h : Spoken w) (n : ℕ)
        (lands : (m : ℕ) → n ≤ m → PartAll o a.states (landed o a e w) (onward o a m w)) where
      -- where n arcs are enough after the silent ones, n + r arcs are enough for fewer than r silent ones
      climbs : (r m : ℕ) → n + r ≤ m →
          PartAll o a.states (act o a.states (fewer o a.states (arc_table o a 0) r) (landed o a e w)) (under o a m w)
      climbs zero m k i l = part_along laws (dot_nil laws a.states (landed o a e w)) (part_nil laws) refl
      climbs (suc r) zero k i l = absurd (omega arith)
      climbs (suc r) (suc m) k i l =
          let on = part_dot laws a.states (arc_table o a 0 i) (climbs r m (omega arith)) in
          let all = part_plus laws (lands m (omega arith) i l) on in
          let whole = act_fewer laws a.states (arc_table o a 0) r (landed o a e w) i l in
          part_along laws whole all (sym (under_step laws a sound m w h i))

      -- so some number of arcs is enough for the worth
      rises : Reached o a e w
      rises =
          let (r, enough) = act_enough laws a.states (arc_table o a 0) e closing in
          (n + r, λ m k i l. part_along laws (enough (landed o a e w) i l) (climbs r m k i l) refl)

    -- some number of arcs is enough for the worth of any word
    reaches : (w : List ℕ) → Spoken w → Reached o a e w
    reaches [] h = rises [] h 0 (λ m k i l. part_refl laws)
    reaches (c ∷ w) h =
        let (n, g) = reaches w h.1 in
        rises (c ∷ w) h n (λ m k i l. part_dot laws a.states (arc_table o a c i) (g m k))

    -- where they are enough, the join over the paths is the start chained with the word's worth
    sum_worth : (w : List ℕ) → Spoken w → (m : ℕ) → PartAll o a.states (worth o a e w) (under o a (suc m) w) →
        sum_up_to o a w m ≡ dot o a.states (cleared_by o a e).start (worth o a e w)
    sum_worth w h m g =
        sum_by_start laws a w m
        ∙ column_cong laws a.states (cleared_by o a e).start (λ i l. part_antisym laws (under_part (suc m) w h i l) (g i l))

    -- so that is the settled sum of the word
    pub worth_settles : (w : List ℕ) → Spoken w → Settled o a w (dot o a.states (cleared_by o a e).start (worth o a e w))
    worth_settles w h = let (n, g) = reaches w h in (n, λ m k. sum_worth w h m (g (suc m) (omega arith)))

-- with any closed table of the silent arcs, the chart without them tells the settled sum of any spoken letters
pub clears_by : {W : Type 0} {o : Ops W} → Plain o → (a : Automaton W) → Sound a → (e : Table W) →
    ClosesUniformly o a.states (arc_table o a 0) e → (w : List ℕ) → Spoken w →
    Settled o a (reverse w) (told o (cleared_by o a e) w)
clears_by laws a sound e closing w h =
    rw (told_worth laws a e w) (worth_settles laws a e sound closing (reverse w) (spoken_reverse w [] h tt))

-- the cleared chart tells the settled sum of any spoken letters
pub clears : {W : Type 0} {o : Ops W} → Laws o → (a : Automaton W) → Sound a → (w : List ℕ) → Spoken w →
    Settled o a (reverse w) (told o (cleared o a) w)
clears {o} laws a sound w h =
    let closing = closes_uniformly laws.plain laws.settles a.states (arc_table o a 0) in
    clears_by laws.plain a sound (silent_closure o a) closing w h
