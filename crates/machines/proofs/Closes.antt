-- The rounds come to the join of the walks. The states of a walk between its first and its last are its inner states:
-- after j rounds every entry is the join of the walks of one step or more whose inner states are all below j.
use Rattle.std.proofs.Common.{◌≡◌, ℕ, zero, suc, ◌+◌, ◌<◌, ◌≤◌, sym, refl, ap, ◌∙◌, le_refl, suc-add, arith}
use Rattle.weights.specs.Semiring.{Ops, Plain, Settling, power, powers}
use Rattle.charts.specs.Sums.{sum}
use Rattle.machines.specs.Closure.{Table, Closes, ClosesUniformly, diagonal, rounds, closed, product, walks, walks_up_to}
use Rattle.machines.proofs.Sums.{plus_nil, plus_swap, plus_last, sum_cong, sum_plus, sum_nil, sum_times, sum_diagonal}
use Rattle.machines.proofs.Order.{Part, part_nil, part_refl, part_trans, part_along, part_antisym}
use Rattle.machines.proofs.Order.{part_plus, part_times, part_before, part_sum, part_longer}

-- the join of the walks of r + 1 steps whose inner states are below j
abbrev inner : {W : Type 0} → Ops W → ℕ → Table W → ℕ → Table W
inner o j t zero = t
inner o j t (suc r) = product o j t (inner o j t r)

-- the join of the walks of 1 to m steps whose inner states are below j
abbrev inner_up_to : {W : Type 0} → Ops W → ℕ → Table W → ℕ → Table W
inner_up_to o j t m i k = sum o m (λ r. inner o j t r i k)

-- after j rounds every entry is part of the walks of up to n steps
abbrev Within : {W : Type 0} → Ops W → ℕ → Table W → ℕ → Type 0
Within o j t n = (i k : ℕ) → Part o (rounds o j t i k) (inner_up_to o j t n i k)

module _ {W : Type 0} {o : Ops W} (laws : Plain o) (settles : Settling o) where
  open o use {nil, plus, times, star}
  open laws use {plus_assoc, plus_comm, nil_plus, times_assoc, unit_times}
  open laws use {times_plus, plus_times, nil_times, times_nil}

  -- a up to n + 1 times and then x is x, or a first and then again a up to n times and x
  pub powers_on : (a x : W) (n : ℕ) → times (powers o a (suc n)) x ≡ plus x (times a (times (powers o a n) x))
  powers_on a x zero = simp (plus_times, unit_times, times_assoc)
  powers_on a x (suc n) =
      plus_times (powers o a (suc n)) (power o a (suc (suc n))) x
      ∙ ap (λ y. plus y (times (power o a (suc (suc n))) x)) (powers_on a x n)
      ∙ simp (plus_times, times_plus, times_assoc, plus_assoc)

  -- the star of a and then x is x, or a first and then again the star and x
  pub star_on : (a x : W) → times (star a) x ≡ plus x (times a (times (star a) x))
  star_on a x = let (n, settled) = settles a in cc (powers_on a x n, settled (suc n) (omega arith), settled n (le_refl n))

  module _ (t : Table W) where
    -- the walks of up to m + 1 steps are a step, or a step and then the walks of up to m
    inner_next : (j m i k : ℕ) → inner_up_to o j t (suc m) i k ≡ plus (t i k) (product o j t (inner_up_to o j t m) i k)
    inner_next j zero i k = simp (times_nil, sum_nil laws, plus_nil laws, nil_plus)
    inner_next j (suc m) i k =
        ap (λ x. plus x (inner o j t (suc m) i k)) (inner_next j m i k) ∙ simp (times_plus, sum_plus laws, plus_assoc)

    -- a step, and then x to the end, or x to j and u from there: u is a factor of all that goes through j
    step_through : (x : Table W) (j i k : ℕ) (u : W) →
        plus (t i k) (plus (sum o j (λ l. times (t i l) (plus (x l k) (times (x l j) u)))) (times (t i j) u))
        ≡ plus (plus (t i k) (product o j t x i k)) (times (plus (t i j) (product o j t x i j)) u)
    step_through x j i k u =
        simp (plus_times, times_plus, sum_plus laws, sum_times laws, times_assoc, plus_assoc, plus_comm, plus_swap laws)

    -- what round j adds goes to j, back to j any number of times, and on
    rounds_split : (j i k : ℕ) →
        let u = times (star (rounds o j t j j)) (rounds o j t j k) in
        rounds o (suc j) t i k ≡ plus (rounds o j t i k) (times (rounds o j t i j) u)
    rounds_split j i k = ap (plus (rounds o j t i k)) (times_assoc _ _ _)

    -- what the rounds make is a step, or a step and then what the rounds make
    rounds_next : (j i k : ℕ) → rounds o j t i k ≡ plus (t i k) (product o j t (rounds o j t) i k)
    rounds_next zero i k = sym (plus_nil laws (t i k))
    rounds_next (suc j) i k =
        let u = times (star (rounds o j t j j)) (rounds o j t j k) in
        let below = sum_cong laws j (λ l _. ap (times (t i l)) (rounds_split j l k)) in
        let here = rounds_split j j k ∙ sym (star_on (rounds o j t j j) (rounds o j t j k)) in
        cc (rounds_split j i k, rounds_next j i k, rounds_next j i j, step_through (rounds o j t) j i k u, below, here)

    -- the walks of up to m steps are part of what the rounds make
    inner_part : (j m i k : ℕ) → Part o (inner_up_to o j t m i k) (rounds o j t i k)
    inner_part j zero i k = part_nil laws
    inner_part j (suc m) i k =
        let on = part_sum laws j (λ l _. part_before laws (t i l) (inner_part j m l k)) in
        part_along laws (inner_next j m i k) (part_plus laws (part_refl laws) on) (sym (rounds_next j i k))

    -- walks of up to m steps below j, to the end or to j and on by u, are walks of up to m + n steps where u is part of up to n
    inner_through : (j m n i k : ℕ) (u : W) → Part o u (inner_up_to o (suc j) t n j k) →
        Part o (plus (inner_up_to o j t m i k) (times (inner_up_to o j t m i j) u)) (inner_up_to o (suc j) t (m + n) i k)
    inner_through j zero n i k u p = part_along laws (nil_plus _ ∙ nil_times u) (part_nil laws) refl
    inner_through j (suc m) n i k u p =
        let below = part_sum laws j (λ l _. part_before laws (t i l) (inner_through j m n l k u p)) in
        let here = part_trans laws p (part_longer laws (λ r. inner o (suc j) t r j k) n (m + n) (omega arith)) in
        part_along laws
        (cc (inner_next j m i k, inner_next j m i j, step_through (inner_up_to o j t m) j i k u))
        (part_plus laws (part_refl laws {a = t i k}) (part_plus laws below (part_before laws (t i j) here)))
        (cc (inner_next (suc j) (m + n) i k, suc-add m n))

    module _ (j n : ℕ) (within : Within o j t n) where
      -- what j rounds make, to the end or to j and on by u, is part of the walks of up to n + m steps where u is part of up to m
      within_through : (m i k : ℕ) (u : W) → Part o u (inner_up_to o (suc j) t m j k) →
          Part o (plus (rounds o j t i k) (times (rounds o j t i j) u)) (inner_up_to o (suc j) t (n + m) i k)
      within_through m i k u p =
          let through = part_times laws (within i j) (part_refl laws) in
          part_trans laws (part_plus laws (within i k) through) (inner_through j n m i k u p)

      -- from j back to j up to r times and then on is part of the walks of up to some number of steps
      within_loops : (r : ℕ) →
          (m : ℕ) × ((k : ℕ) → Part o (times (powers o (rounds o j t j j) r) (rounds o j t j k)) (inner_up_to o (suc j) t m j k))
      within_loops zero =
          (n + 0, λ k. part_along laws (simp (unit_times, times_nil, plus_nil laws)) (within_through 0 j k nil (part_nil laws)) refl)
      within_loops (suc r) =
          let (m, p) = within_loops r in
          (n + m, λ k. part_along laws (powers_on (rounds o j t j j) (rounds o j t j k) r) (within_through m j k _ (p k)) refl)

      -- and so is what round j makes
      within_round : (m : ℕ) × Within o (suc j) t m
      within_round =
          let (r, settled) = settles (rounds o j t j j) in
          let (m, p) = within_loops r in
          (n + m, λ i k. part_along laws (cc (rounds_split j i k, settled r (le_refl r))) (within_through m i k _ (p k)) refl)

    -- what any number of rounds make is part of the walks of up to some number of steps
    rounds_within : (j : ℕ) → (n : ℕ) × Within o j t n
    rounds_within zero = (1, λ i k. part_along laws (sym (nil_plus (t i k))) (part_refl laws) refl)
    rounds_within (suc j) = let (n, within) = rounds_within j in within_round j n within

    -- where n steps are enough, so are more
    inner_enough : (j n m i k : ℕ) → Within o j t n → n ≤ m → inner_up_to o j t m i k ≡ rounds o j t i k
    inner_enough j n m i k within h =
        let longer = part_longer laws (λ r. inner o j t r i k) n m h in
        part_antisym laws (inner_part j m i k) (part_trans laws (within i k) longer)

    -- from some number of steps on, the walks with inner states below j are what j rounds make
    inner_settles : (j : ℕ) → (n : ℕ) × ((m : ℕ) → n ≤ m → (i k : ℕ) → inner_up_to o j t m i k ≡ rounds o j t i k)
    inner_settles j = let (n, within) = rounds_within j in (n, λ m h i k. inner_enough j n m i k within h)

    -- the walks among d states have all their inner states below d
    walks_inner : (d r i k : ℕ) → k < d → walks o d t (suc r) i k ≡ inner o d t r i k
    walks_inner d zero i k h = sum_diagonal laws d k (t i) h
    walks_inner d (suc r) i k h = sum_cong laws d (λ l _. ap (times (t i l)) (walks_inner d r l k h))

    -- the walks of up to m steps are those of 1 to m steps and that of none
    walks_split : (d m i k : ℕ) → k < d → walks_up_to o d t m i k ≡ plus (inner_up_to o d t m i k) (diagonal o i k)
    walks_split d zero i k h = refl
    walks_split d (suc m) i k h =
        let last = plus_last laws (inner_up_to o d t m i k) (diagonal o i k) (inner o d t m i k) in
        cc (walks_split d m i k h, walks_inner d m i k h, last)

  -- from some number of steps on, the same for every entry, the walks are the closed table
  pub closes_uniformly : (d : ℕ) (t : Table W) → ClosesUniformly o d t (closed o d t)
  closes_uniformly d t =
      let (n, settled) = inner_settles t d in
      (n, λ m h i k _ l. walks_split t d m i k l ∙ ap (λ x. plus x (diagonal o i k)) (settled m h i k))

  -- the rounds close every table
  pub closes : (d : ℕ) (t : Table W) → Closes o d t (closed o d t)
  closes d t i k hi hk = let (n, settled) = closes_uniformly d t in (n, λ m h. settled m h i k hi hk)
