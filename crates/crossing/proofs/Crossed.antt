-- The crossing of two machines tells the chain of what the two tell.
use Rattle.std.proofs.Common.{◌≡◌, ℕ, ◌*◌, ◌/◌, ◌%◌, List, [], ◌∷◌, refl, ◌∙◌}
use Rattle.weights.specs.Semiring.{Ops, Plain, Commutes}
use Rattle.machines.specs.Machine.{Machine, crossed, row, told}
use Rattle.machines.proofs.Sums.{times_cross, sum_cong, sum_pairs}
use Rattle.machines.proofs.Rows.{dot, row_cong}

module _ {W : Type 0} {o : Ops W} (laws : Plain o) (commutes : Commutes o) where
  open o use {times}

  -- where the row t is at each pair the chain of r and s, t chained with the pairs of f and g is r with f, and s with g
  dot_crossed : (m n : ℕ) (r s f g : ℕ → W) {t : ℕ → W} → ((i : ℕ) → t i ≡ times (r (i / n)) (s (i % n))) →
      dot o (m * n) t (λ i. times (f (i / n)) (g (i % n))) ≡ times (dot o m r f) (dot o n s g)
  dot_crossed m n r s f g pairs =
      row_cong laws (m * n) (λ i. times (f (i / n)) (g (i % n))) (λ i _. pairs i)
      ∙ sum_cong laws (m * n) (λ i _. times_cross laws commutes (r (i / n)) (s (i % n)) (f (i / n)) (g (i % n)))
      ∙ sum_pairs laws m n (λ p. times (r p) (f p)) (λ q. times (s q) (g q))

  -- the row of the crossing is, at each pair, the chain of the two rows
  row_crossed : (x y : Machine W) (w : List ℕ) (k : ℕ) →
      row o (crossed o x y) w k ≡ times (row o x w (k / y.states)) (row o y w (k % y.states))
  row_crossed x y [] k = refl
  row_crossed x y (c ∷ w) k =
      let f : ℕ → W = λ p. x.block c p (k / y.states) in
      let g : ℕ → W = λ q. y.block c q (k % y.states) in
      dot_crossed x.states y.states (row o x w) (row o y w) f g (row_crossed x y w)

  -- a crossing tells the chain of what the two machines tell
  pub told_crossed : (x y : Machine W) (w : List ℕ) → told o (crossed o x y) w ≡ times (told o x w) (told o y w)
  told_crossed x y w =
      dot_crossed x.states y.states (row o x w) (row o y w) x.final y.final (row_crossed x y w)
