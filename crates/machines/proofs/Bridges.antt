-- Machines that agree on their weights tell the same.
use Rattle.std.proofs.Common.{◌≡◌, ℕ, ◌<◌, List, [], ◌∷◌, ap, ◌∙◌, ap₂}
use Rattle.weights.specs.Semiring.{Ops, Plain}
use Rattle.charts.specs.Sums.{sum}
use Rattle.charts.specs.Automaton.{Within}
use Rattle.machines.specs.Machine.{Machine, Alike, row, told}
use Rattle.machines.proofs.Sums.{sum_cong}

module _ {W : Type 0} {o : Ops W} (laws : Plain o) (x y : Machine W) (alike : Alike x y) where
  -- joins over the states of machines that agree, of terms that agree
  states_cong : {f g : ℕ → W} → ((i : ℕ) → i < x.states → f i ≡ g i) → sum o x.states f ≡ sum o y.states g
  states_cong {f} {g} h = sum_cong laws x.states h ∙ ap (λ n. sum o n g) alike.states

  -- machines that agree have the same row after letters of theirs
  pub row_of_cong : (w : List ℕ) → Within x.letters w → (k : ℕ) → k < x.states → row o x w k ≡ row o y w k
  row_of_cong [] h k l = alike.start k l
  row_of_cong (c ∷ w) h k l =
      states_cong (λ i b. ap₂ o.times (row_of_cong w h.2 i b) (alike.block c i k h.0 h.1 b l))

  -- and so they tell the same
  pub told_cong : (w : List ℕ) → Within x.letters w → told o x w ≡ told o y w
  told_cong w h = states_cong (λ i b. ap₂ o.times (row_of_cong w h i b) (alike.final i b))
