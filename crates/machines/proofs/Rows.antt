-- Rows chained with columns, and tables applied to columns.
use Rattle.std.proofs.Common.{◌≡◌, ℕ, suc, ◌<◌, sym, ap, ◌∙◌, ap₂, le_refl, arith}
use Rattle.weights.specs.Semiring.{Ops, Plain}
use Rattle.charts.specs.Sums.{sum}
use Rattle.machines.specs.Closure.{Table, diagonal, product, walks, ClosesUniformly}
use Rattle.machines.proofs.Sums.{sum_cong, sum_nil, sum_first, sum_plus, sum_swap, times_sum, sum_times, diagonal_sum}
use Rattle.machines.proofs.Order.{Part, part_before, part_sum}

-- a row chained with a column, entry by entry, and joined
abbrev pub dot : {W : Type 0} → Ops W → ℕ → (ℕ → W) → (ℕ → W) → W
dot o d u x = sum o d (λ i. o.times (u i) (x i))

-- a table applied to a column
abbrev pub act : {W : Type 0} → Ops W → ℕ → Table W → (ℕ → W) → ℕ → W
act o d t x i = dot o d (t i) x

-- the join of the walks of fewer than r steps
abbrev pub fewer : {W : Type 0} → Ops W → ℕ → Table W → ℕ → Table W
fewer o d t r i k = sum o r (λ s. walks o d t s i k)

-- the column x is part of the column y in each of d states
abbrev pub PartAll : {W : Type 0} → Ops W → ℕ → (ℕ → W) → (ℕ → W) → Type 0
PartAll o d x y = (i : ℕ) → i < d → Part o (x i) (y i)

module _ {W : Type 0} {o : Ops W} (laws : Plain o) where
  open o use {nil, plus, times}
  open laws use {times_assoc, plus_times, nil_times}

  -- equal rows chained with a column
  pub row_cong : (d : ℕ) {u v : ℕ → W} (x : ℕ → W) → ((i : ℕ) → i < d → u i ≡ v i) → dot o d u x ≡ dot o d v x
  row_cong d x h = sum_cong laws d (λ i l. ap (λ y. times y (x i)) (h i l))

  -- a row chained with equal columns
  pub column_cong : (d : ℕ) (u : ℕ → W) {x y : ℕ → W} → ((i : ℕ) → i < d → x i ≡ y i) → dot o d u x ≡ dot o d u y
  column_cong d u h = sum_cong laws d (λ i l. ap (times (u i)) (h i l))

  -- a row chained with two columns of which the one is part of the other
  pub part_dot : (d : ℕ) (u : ℕ → W) {x y : ℕ → W} → PartAll o d x y → Part o (dot o d u x) (dot o d u y)
  part_dot d u h = part_sum laws d (λ i l. part_before laws (u i) (h i l))

  -- a join of chains of one row is the chain of the row and the joins
  pub dot_sum : (d n : ℕ) (u : ℕ → W) (x : ℕ → ℕ → W) →
      sum o n (λ r. dot o d u (x r)) ≡ dot o d u (λ i. sum o n (λ r. x r i))
  dot_sum d n u x =
      sum_swap laws n d (λ r i. times (u i) (x r i)) ∙ sum_cong laws d (λ i _. sym (times_sum laws n (u i) (λ r. x r i)))

  -- a factor behind a row chained with a column goes to each entry of the column
  dot_times : (d : ℕ) (u x : ℕ → W) (y : W) → times (dot o d u x) y ≡ dot o d u (λ i. times (x i) y)
  dot_times d u x y = sum_times laws d (λ i. times (u i) (x i)) y ∙ sum_cong laws d (λ i _. times_assoc (u i) (x i) y)

  -- a row through a table and then a column: the table may be applied to the column first
  pub dot_assoc : (d : ℕ) (u : ℕ → W) (t : Table W) (x : ℕ → W) →
      dot o d (λ k. dot o d u (λ j. t j k)) x ≡ dot o d u (act o d t x)
  dot_assoc d u t x =
      sum_cong laws d (λ k _. dot_times d u (λ j. t j k) (x k)) ∙ dot_sum d d u (λ k j. times (t j k) (x k))

  -- a row that is a join of two
  dot_plus : (d : ℕ) (u v x : ℕ → W) → dot o d (λ i. plus (u i) (v i)) x ≡ plus (dot o d u x) (dot o d v x)
  dot_plus d u v x =
      sum_cong laws d (λ i _. plus_times (u i) (v i) (x i)) ∙ sum_plus laws d (λ i. times (u i) (x i)) (λ i. times (v i) (x i))

  -- the row of zeros
  pub dot_nil : (d : ℕ) (x : ℕ → W) → dot o d (λ _. nil) x ≡ nil
  dot_nil d x = sum_cong laws d (λ i _. nil_times (x i)) ∙ sum_nil laws d

  -- the walks of fewer than r + 1 steps are none, or one step and then fewer than r
  fewer_next : (d : ℕ) (t : Table W) (r i k : ℕ) →
      fewer o d t (suc r) i k ≡ plus (diagonal o i k) (product o d t (fewer o d t r) i k)
  fewer_next d t r i k =
      let on = dot_sum d r (t i) (λ s j. walks o d t s j k) in
      sum_first laws r (λ s. walks o d t s i k) ∙ ap (plus (diagonal o i k)) on

  -- the walks of fewer than r + 1 steps, applied to a column: none, or one step and then fewer than r
  pub act_fewer : (d : ℕ) (t : Table W) (r : ℕ) (x : ℕ → W) (i : ℕ) → i < d →
      act o d (fewer o d t (suc r)) x i ≡ plus (x i) (act o d t (act o d (fewer o d t r) x) i)
  act_fewer d t r x i l =
      row_cong d x (λ k _. fewer_next d t r i k)
      ∙ dot_plus d (diagonal o i) (product o d t (fewer o d t r) i) x
      ∙ ap₂ plus (diagonal_sum laws d i x l) (dot_assoc d (t i) (fewer o d t r) x)

  module _ (d : ℕ) (t e : Table W) (closing : ClosesUniformly o d t e) where
    -- some number of steps is enough for the closed table, applied to any column
    pub act_enough : (r : ℕ) × ((x : ℕ → W) (i : ℕ) → i < d → act o d e x i ≡ act o d (fewer o d t r) x i)
    act_enough =
        let (n, settled) = closing in
        (suc n, λ x i l. row_cong d x (λ k b. sym (settled n (le_refl n) i k l b)))

    -- the closed table, applied to a column: none, or one step and then the closed table again
    pub act_closed : (x : ℕ → W) (i : ℕ) → i < d → act o d e x i ≡ plus (x i) (act o d t (act o d e x) i)
    act_closed x i l =
        let (n, settled) = closing in
        row_cong d x (λ k b. sym (settled (suc n) (omega arith) i k l b))
        ∙ act_fewer d t (suc n) x i l
        ∙ ap (plus (x i)) (column_cong d (t i) (λ j b. row_cong d x (λ k c. settled n (omega arith) j k b c)))
