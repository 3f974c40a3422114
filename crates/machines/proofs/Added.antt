-- What the arcs of a chart add to tables, one by one.
use Rattle.std.proofs.Common.{◌≡◌, ℕ, ◌+◌, ◌-◌, ◌*◌, ◌<◌, ◌≤◌, Bool, true, false, cond, ◌&&◌, eqb, List, length, take, drop, sym, refl, ap, ◌∙◌, ap₂, inl, inr, le_refl, add-one, arith}
use lib.Arith.{digits_lt}
use borrow.Rule.Slice.PartMut.{put_mid}
use Rattle.std.proofs.lemmas.Bool.{cases_eq, eq-eqb, ne_eqb, cond-true, cond-false}
use Rattle.weights.specs.Semiring.{Ops, Plain}
use Rattle.charts.specs.Views.{Row}
use Rattle.charts.specs.Sums.{sum}
use Rattle.machines.specs.Closure.{Table}
use Rattle.machines.specs.Tables.{weight_at, table_of, Entries}
use Rattle.machines.specs.Arcs.{arc_adds_behind, block_entry, Blocks}
use Rattle.machines.proofs.Places.{block_fits, row_put_in, row_put_out, weight_part}
use Rattle.machines.proofs.Sums.{plus_nil, sum_cong}

-- two tests, one after the other, are both
cond_and : {X : Type 0} (a b : Bool) (x y : X) → cond a (cond b x y) y ≡ cond (a && b) x y
cond_and true b x y = refl
cond_and false b x y = refl

-- block a of d states is written; m is its size as the code has it
module _ {K W : Type 0} (o : Ops W) (meaning : K → W) (d a m : ℕ) (ws ys : List K)
    (some : 1 ≤ a) (same : m ≡ d * d) (fits : a * (d * d) ≤ length ws) (long : length ys ≡ d * d) where
  begins : (a - 1) * (d * d) ≤ length ws
  begins = let e = block_fits (d * d) a a some (le_refl a) in omega arith

  -- it has what was written
  pub block_put_in : (i k : ℕ) → i < d → k < d → block_entry o meaning d (put_mid ((a - 1) * (d * d)) m ws ys) a i k ≡ table_of o meaning d ys i k
  block_put_in i k h l =
      row_put_in o meaning (d * d) (a - 1) m ws ys same begins long {f = weight_at o meaning ys} (λ q z. refl) (i * d + k) (digits_lt h l)

  -- the other blocks are as they were
  pub block_put_out : (c i k : ℕ) → 1 ≤ c → (c ≡ a → ⊥) → i < d → k < d →
      block_entry o meaning d (put_mid ((a - 1) * (d * d)) m ws ys) c i k ≡ block_entry o meaning d ws c i k
  block_put_out c i k b y h l =
      let old : ℕ → W = λ q. weight_at o meaning ws ((c - 1) * (d * d) + q) in
      row_put_out o meaning (d * d) (a - 1) m ws ys same begins long {f = old} (c - 1) (λ e. y (omega arith)) (λ q z. refl) (i * d + k) (digits_lt h l)

module _ {K W : Type 0} {o : Ops W} (meaning : K → W) (plain : Plain o) where
  -- one more is joined
  pub sum_more : (n : ℕ) (f : ℕ → W) {x y : W} → x ≡ sum o n f → y ≡ o.plus x (f n) → y ≡ sum o (n + 1) f
  sum_more n f held e = rw (add-one n) (e ∙ ap (λ x. o.plus x (f n)) held)

  -- a join over a row that was lent is one over the table's row
  pub row_sum : (d i : ℕ) (test : ℕ → Bool) (ws row : List K) {x : W} → row ≡ take d (drop (i * d) ws) → length row ≡ d →
      x ≡ sum o (length row) (λ j. cond (test j) (weight_at o meaning row j) o.nil) →
      x ≡ sum o d (λ j. cond (test j) (table_of o meaning d ws i j) o.nil)
  row_sum d i test ws row lent long e =
      let at : (j : ℕ) → j < d → weight_at o meaning row j ≡ table_of o meaning d ws i j =
      λ j h. ap (λ r. weight_at o meaning r j) lent ∙ weight_part o meaning (i * d) d ws j h in
      rw long at e ∙ sum_cong plain d (λ j h. ap (λ y. cond (test j) y o.nil) (at j h))

  -- what is joined into one block, and nothing into the others; m is the size of a block as the code has it
  pub block_joined : (d a m : ℕ) (ws ys : List K) (g : Table W) → 1 ≤ a → m ≡ d * d → a * (d * d) ≤ length ws → length ys ≡ d * d →
      Entries d (table_of o meaning d ys) (λ i k. o.plus (table_of o meaning d (take m (drop ((a - 1) * (d * d)) ws)) i k) (g i k)) →
      Blocks d (block_entry o meaning d (put_mid ((a - 1) * (d * d)) m ws ys)) (λ c i k. o.plus (block_entry o meaning d ws c i k) (cond (eqb a c) (g i k) o.nil))
  block_joined d a m ws ys g some same fits long step c i k b h l =
      let old = block_entry o meaning d ws in
      let place : i * d + k < d * d = digits_lt h l in
      elim (cases_eq a c) [
        | inl s ↦
            ap (λ x. block_entry o meaning d (put_mid ((a - 1) * (d * d)) m ws ys) x i k) (sym s)
            ∙ block_put_in o meaning d a m ws ys some same fits long i k h l
            ∙ step i k h l
            ∙ ap₂ o.plus
            (weight_part o meaning ((a - 1) * (d * d)) m ws (i * d + k) (omega arith) ∙ ap (λ x. old x i k) s)
            (sym (cond-true (eqb a c) (g i k) o.nil (eq-eqb a c s)))
        | inr y ↦
            block_put_out o meaning d a m ws ys some same fits long c i k b (λ e. y (sym e)) h l
            ∙ sym (ap (o.plus (old c i k)) (cond-false (eqb a c) (g i k) o.nil (ne_eqb a c y)) ∙ plus_nil plain (old c i k))
      ]

  -- an arc is joined into the block of its letter, behind the table e
  pub arc_joined_behind : (weighs : (minutes grade parts : ℕ) → W) (e : Table W) (r : Row) (d a p q m : ℕ) (w : W) (ws ys : List K) →
      a ≡ r.letter → p ≡ r.from → q ≡ r.to → w ≡ weighs r.minutes r.grade r.parts →
      1 ≤ a → m ≡ d * d → a * (d * d) ≤ length ws → length ys ≡ d * d →
      Entries d (table_of o meaning d ys)
      (λ i k. o.plus (table_of o meaning d (take m (drop ((a - 1) * (d * d)) ws)) i k) (cond (eqb q k) (o.times (e i p) w) o.nil)) →
      Blocks d (block_entry o meaning d (put_mid ((a - 1) * (d * d)) m ws ys)) (λ c i k. o.plus (block_entry o meaning d ws c i k) (arc_adds_behind o weighs e r c i k))
  arc_joined_behind weighs e r d a p q m w ws ys spells begins ends weight some same fits long step c i k b h l =
      let added : cond (eqb a c) (cond (eqb q k) (o.times (e i p) w) o.nil) o.nil ≡ arc_adds_behind o weighs e r c i k =
      rw (spells, begins, ends, weight) (cond_and (eqb r.letter c) (eqb r.to k) _ _) in
      block_joined d a m ws ys (λ i k. cond (eqb q k) (o.times (e i p) w) o.nil) some same fits long step c i k b h l
      ∙ ap (o.plus (block_entry o meaning d ws c i k)) added

  -- one more is joined into every block that holds the join of the first n; m is d as the code has it
  pub blocks_more : (d m n : ℕ) (old new : List K) (f : ℕ → ℕ → Table W) (g : ℕ → Table W) → m ≡ d → ((c i k : ℕ) → g c i k ≡ f n c i k) →
      Blocks d (block_entry o meaning d old) (λ c i k. sum o n (λ e. f e c i k)) →
      Blocks m (block_entry o meaning m new) (λ c i k. o.plus (block_entry o meaning m old c i k) (g c i k)) →
      Blocks d (block_entry o meaning d new) (λ c i k. sum o (n + 1) (λ e. f e c i k))
  blocks_more d m n old new f g same adds held step c i k b h l =
      rw (add-one n) ((rw same at step) c i k b h l ∙ ap₂ o.plus (held c i k b h l) (adds c i k))
