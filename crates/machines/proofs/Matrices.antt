-- Matrices that change call by call, and loops that change them row by row.
use Rattle.std.proofs.Common.{◌≡◌, ℕ, ◌+◌, ◌*◌, ◌<◌, ◌≤◌, cond, ltb, eqb, List, length, get_or, take, drop, set, false, ◌&&◌, sym, refl, ap, ap₂, ◌∙◌, inl, inr, arith}
use borrow.Rule.Slice.PartMut.{put_mid}
use Rattle.std.proofs.lemmas.Bool.{cases_eq, cases_lt, eq-eqb, ne_eqb, lt-ltb, le-ltb, cond-true, cond-false, and_from, and_left, and_right}
use Rattle.weights.specs.Semiring.{Ops, Plain}
use Rattle.machines.specs.declared.matrix.Matrix.{Matrix}
use Rattle.machines.specs.Closure.{Table}
use Rattle.machines.specs.Matrix.{Becomes, matrix_of, row_of, entry_joined, row_joined}
use Rattle.machines.specs.Tables.{weight_at, table_of, Entries, Joined}
use Rattle.machines.proofs.Places.{same_place, row_put_in, row_put_out, weight_part, weight_read, weight_set_same, weight_set_other}
use Rattle.machines.proofs.Sums.{plus_nil}

-- a table whose first n rows are done, and whose others are left
abbrev pub rows_done : {W : Type 0} → ℕ → (done left : Table W) → Table W
rows_done n done left i k = cond (ltb i n) (done i k) (left i k)

-- a table into whose first n rows another is joined
abbrev pub rows_joined : {W : Type 0} → Ops W → ℕ → (adds old : Table W) → Table W
rows_joined o n adds old = rows_done n (λ i k. o.plus (old i k) (adds i k)) old

module _ {W : Type 0} (d : ℕ) (done left : Table W) where
  -- a row that is left
  pub row_left : (n : ℕ) {t : Table W} → Entries d t (rows_done n done left) → n < d → (k : ℕ) → k < d → t n k ≡ left n k
  row_left n e h k l = e n k h l ∙ cond-false _ _ _ (le-ltb n n (omega arith))

  -- one more row is done, and the others are as they were
  pub rows_more : (n : ℕ) (t u : Table W) → Entries d t (rows_done n done left) →
      ((k : ℕ) → k < d → t n k ≡ left n k → u n k ≡ done n k) → ((i k : ℕ) → (i ≡ n → ⊥) → u i k ≡ t i k) →
      Entries d u (rows_done (n + 1) done left)
  rows_more n t u e here others i k h l = elim (cases_eq i n) [
    | inl s ↦ rw s (here k l (row_left n e (rw (← s) h) k l) ∙ sym (cond-true _ _ _ (lt-ltb n (n + 1) (omega arith))))
    | inr y ↦ others i k y ∙ e i k h l ∙ ap (λ b. cond b (done i k) (left i k)) (elim (cases_lt i n) [
      | inl x ↦ lt-ltb i n x ∙ sym (lt-ltb i (n + 1) (omega arith))
      | inr x ↦ le-ltb i n x ∙ sym (le-ltb i (n + 1) (omega arith))
    ])
  ]

-- one weight is joined into each row in turn: that of row n is joined, at some column
pub entry_more : {W : Type 0} {o : Ops W} → Plain o → (d n to : ℕ) (w : W) (adds old t : Table W) → ((k : ℕ) → cond (eqb to k) w o.nil ≡ adds n k) →
    Entries d t (rows_joined o n adds old) → Entries d (entry_joined o n to w t) (rows_joined o (n + 1) adds old)
entry_more {o = o} plain d n to w adds old t here e =
    rows_more d (λ i k. o.plus (old i k) (adds i k)) old n t (entry_joined o n to w t) e
    (λ k h left. ap₂ o.plus left (ap (λ b. cond (b && eqb to k) w o.nil) (eq-eqb n n refl) ∙ here k))
    (λ i k y. ap (λ b. o.plus (t i k) (cond (b && eqb to k) w o.nil)) (ne_eqb n i (λ s. y (sym s))) ∙ plus_nil plain _)

-- at another place the row or the column is another
elsewhere : (d p q i k : ℕ) → (p * d + q ≡ i * d + k → ⊥) → (eqb p i && eqb q k) ≡ false
elsewhere d p q i k y = elim (cases_eq p i) [
  | inl s ↦ and_right _ _ (ne_eqb q k (λ t. y (ap₂ (λ r c. r * d + c) s t)))
  | inr z ↦ and_left _ _ (ne_eqb p i z)
]

-- the entry from p to q of a table of d states is written, joined with a weight
pub entry_put : {K W : Type 0} {o : Ops W} (meaning : K → W) → Plain o → (d p q : ℕ) (w : W) (ws : List K) (x : K) → q < d → p * d + q < length ws →
    meaning x ≡ o.plus (weight_at o meaning ws (p * d + q)) w →
    Entries d (table_of o meaning d (set ws (p * d + q) x)) (entry_joined o p q w (table_of o meaning d ws))
entry_put {o = o} meaning plain d p q w ws x within long e i k h l = elim (cases_eq (p * d + q) (i * d + k)) [
  | inl s ↦
      let (row, column) = same_place d p i within l s in
      let here = cond-true _ w o.nil (and_from _ _ (eq-eqb p i row) (eq-eqb q k column)) in
      ap (weight_at o meaning (set ws (p * d + q) x)) (sym s) ∙ weight_set_same o meaning ws (p * d + q) x long ∙ e ∙ ap₂ o.plus (ap (weight_at o meaning ws) s) (sym here)
  | inr y ↦
      weight_set_other o meaning ws (p * d + q) x (i * d + k) (λ s. y (sym s))
      ∙ sym (ap (o.plus _) (cond-false _ w o.nil (elsewhere d p q i k y)) ∙ plus_nil plain _)
]

module _ {K W : Type 0} (o : Ops W) (meaning : K → W) where
  -- a change after another
  pub becomes_then : {a b c : Matrix K} {t u : Table W} (f : Table W → Table W) → Becomes o meaning a b t → Becomes o meaning b c (f (matrix_of o meaning b)) →
      ((s : Table W) → Entries a.states s t → Entries a.states (f s) u) → Becomes o meaning a c u
  becomes_then {a} {b} {c} f first second step =
      let after = rw first.states at second.entries in
      record {
        states = second.states ∙ first.states;
        memory = second.memory ∙ first.memory;
        entries = λ i k h l. after i k h l ∙ step (table_of o meaning a.states b.weights.now) first.entries i k h l;
      }

  -- what a weight of a row means that was lent
  pub row_entry : (m : Matrix K) (d i k : ℕ) (row : List K) → m.states ≡ d → k < d → row ≡ row_of m i →
      weight_at o meaning row k ≡ table_of o meaning d m.weights.now i k
  row_entry m d i k row states h lent =
      ap (λ ws. weight_at o meaning ws k) (rw states at lent) ∙ weight_part o meaning (i * d) d m.weights.now k h

  -- and what a read of it gives
  pub row_read : (m : Matrix K) (d i k : ℕ) (row : List K) (x : K) → m.states ≡ d → k < length row → k < d → row ≡ row_of m i →
      x ≡ get_or row k x → meaning x ≡ table_of o meaning d m.weights.now i k
  row_read m d i k row x states long h lent read = sym (weight_read o meaning row k x long read) ∙ row_entry m d i k row states h lent

  -- a row of d places is written, joined with the factor chained with another; k is its length as the code has it
  pub row_put : (d n k : ℕ) (ws ys other : List K) (factor : W) → k ≡ d → n * d ≤ length ws → length ys ≡ d → length other ≡ d →
      Joined o meaning (take k (drop (n * d) ws)) factor other ys →
      Entries d (table_of o meaning d (put_mid (n * d) k ws ys)) (row_joined o n factor (weight_at o meaning other) (table_of o meaning d ws))
  row_put d n k ws ys other factor same begins long wide joined i q h l = elim (cases_eq n i) [
    | inl s ↦
        let here = row_put_in o meaning d n k ws ys same begins long {f = λ q. o.plus (table_of o meaning d ws n q) (o.times factor (weight_at o meaning other q))}
        (λ q h. joined q (omega arith) ∙ ap (λ x. o.plus x (o.times factor (weight_at o meaning other q))) (weight_part o meaning (n * d) k ws q (omega arith))) q l in
        rw (← s) (here ∙ sym (cond-true _ _ _ (eq-eqb n n refl)))
    | inr y ↦ row_put_out o meaning d n k ws ys same begins long {f = table_of o meaning d ws i} i (λ e. y (sym e)) (λ q h. refl) q l
        ∙ sym (cond-false (eqb n i) (o.plus (table_of o meaning d ws i q) (o.times factor (weight_at o meaning other q))) _ (ne_eqb n i y))
  ]
