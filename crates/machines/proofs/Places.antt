-- What stands at the places of a list of weights after a write, and what a loop has done so far.
use Rattle.std.proofs.Common.{◌≡◌, ℕ, zero, suc, ◌+◌, ◌-◌, ◌*◌, ◌/◌, ◌%◌, ◌<◌, ◌≤◌, List, [], ◌∷◌, ◌++◌, map, length, get_or, take, drop, set, sym, refl, ap, ◌∙◌, inl, inr, mul-le-mul_right, suc-mul, suc-add, zero-add, arith, length-drop, length-take-le}
use native.Mathlib.Nat.{add-sub_cancel_left}
use lib.Arith.{digits_lt, digits_div, digits_mod}
use borrow.Rule.Slice.PartMut.{put_mid}
use Rattle.std.proofs.lemmas.List.{map-set, get_or-set_same, get_or-set_other, length-map, get_or-map}
use Rattle.std.proofs.lemmas.Bool.{cases_eq, cases_lt}
use Rattle.weights.specs.Semiring.{Ops}
use Rattle.machines.specs.Tables.{weight_at, table_of, Entries}

-- a row ends where the next begins, or before
pub row_before : (d n r q : ℕ) → n < r → n * d + d ≤ r * d + q
row_before d n r q h = let k : suc n * d ≤ r * d = mul-le-mul_right d h in omega (arith, rw (suc-mul n d) at k)

-- a place of a table is of one row only
same_row : (d r n : ℕ) {q k : ℕ} → q < d → k < d → r * d + q ≡ n * d + k → r ≡ n
same_row d r n h l e = sym (digits_div r h) ∙ ap (λ p. p / d) e ∙ digits_div n l

-- and of one column
pub same_place : (d r n : ℕ) {q k : ℕ} → q < d → k < d → r * d + q ≡ n * d + k → (r ≡ n) × (q ≡ k)
same_place d r n h l e = (same_row d r n h l e, sym (digits_mod r h) ∙ ap (λ p. p % d) e ∙ digits_mod n l)

-- the length of a part of n places, as the code has it
pub length_part : {K : Type 0} (a n : ℕ) (ws : List K) → a + n ≤ length ws → length (take (a + n - a) (drop a ws)) ≡ n
length_part a n ws h = rw (add-sub_cancel_left a n) (length-take-le n (drop a ws) (rw (length-drop a ws) (omega arith)))

-- every row of a table lies in it
pub row_fits : (d : ℕ) {m n i : ℕ} → n ≡ m * d → i < m → i * d + d ≤ n
row_fits d {m} {n} {i} e h = let k : suc i * d ≤ m * d = mul-le-mul_right d h in omega (arith, rw (suc-mul i d) at k)

-- every block lies behind those before it, and with them in the table
pub block_fits : (size l c : ℕ) → 1 ≤ c → c ≤ l → (c - 1) * size + size ≤ l * size
block_fits size l c h b =
    let k : suc (c - 1) * size ≤ l * size = mul-le-mul_right size (omega arith) in omega (arith, rw (suc-mul (c - 1) size) at k)

-- a square table has a row, if it has states
pub row_within : (d : ℕ) → 1 ≤ d → d ≤ d * d
row_within d h = let k : 1 * d ≤ d * d = mul-le-mul_right d h in omega arith

-- of a loop that does one thing after another: the first n are done, the others are as they were
pub record Upto (Done Left : ℕ → Type 0) (n : ℕ) : Type 0 where
  pub before : (r : ℕ) → r < n → Done r
  pub after : (r : ℕ) → n ≤ r → Left r

-- none is done yet
pub upto_none : {Done Left : ℕ → Type 0} → ((r : ℕ) → Left r) → Upto Done Left 0
upto_none left = record { before = λ r h. absurd (omega arith); after = λ r h. left r }

-- as many are done, by another way of counting
pub upto_at : {Done Left : ℕ → Type 0} {n m : ℕ} → n ≡ m → Upto Done Left n → Upto Done Left m
upto_at {Done} {Left} {n} {m} e u = rw (← e) u

-- one more is done, and nothing is changed of the others
pub upto_more : {Done Left Done' Left' : ℕ → Type 0} (n : ℕ) → Upto Done Left n → Done' n →
    ((r : ℕ) → (r ≡ n → ⊥) → Done r → Done' r) → ((r : ℕ) → (r ≡ n → ⊥) → Left r → Left' r) → Upto Done' Left' (n + 1)
upto_more {Done'} n u here done left = record {
  before = λ r h. elim (cases_eq r n) [ inl e ↦ rw e here | inr d ↦ done r d (u.before r (omega arith)) ];
  after = λ r h. left r (omega arith) (u.after r (omega arith));
}

module _ {K W : Type 0} (o : Ops W) (meaning : K → W) where
  -- what a read at a place means
  pub weight_read : (ws : List K) (p : ℕ) (x : K) → p < length ws → x ≡ get_or ws p x → weight_at o meaning ws p ≡ meaning x
  weight_read ws p x h e = get_or-map meaning ws p x o.nil h ∙ ap meaning (sym e)

  -- what a write at a place means there
  pub weight_set_same : (ws : List K) (p : ℕ) (x : K) → p < length ws → weight_at o meaning (set ws p x) p ≡ meaning x
  weight_set_same ws p x h =
      let l : p < length (map meaning ws) = rw (length-map ws meaning) h in
      rw (map-set meaning ws p x) (get_or-set_same (map meaning ws) p (meaning x) o.nil l)

  -- and that it changes no other place
  pub weight_set_other : (ws : List K) (p : ℕ) (x : K) (q : ℕ) → (q ≡ p → ⊥) →
      weight_at o meaning (set ws p x) q ≡ weight_at o meaning ws q
  weight_set_other ws p x q d = rw (map-set meaning ws p x) (get_or-set_other (map meaning ws) p q (meaning x) o.nil d)

  -- one more place is written, and the others keep to what they were to be
  pub upto_set : {f g : ℕ → W} (ws : List K) (n : ℕ) (x : K) → n < length ws → meaning x ≡ f n →
      Upto (λ r. weight_at o meaning ws r ≡ f r) (λ r. weight_at o meaning ws r ≡ g r) n →
      Upto (λ r. weight_at o meaning (set ws n x) r ≡ f r) (λ r. weight_at o meaning (set ws n x) r ≡ g r) (n + 1)
  upto_set ws n x h e u =
      upto_more n u (weight_set_same ws n x h ∙ e) (λ r d k. weight_set_other ws n x r d ∙ k) (λ r d k. weight_set_other ws n x r d ∙ k)

  -- one more place is written, and those before it stay
  pub before_set : {f : ℕ → W} (ws : List K) (n : ℕ) (x : K) → n < length ws → meaning x ≡ f n →
      ((r : ℕ) → r < n → weight_at o meaning ws r ≡ f r) → (r : ℕ) → r < n + 1 → weight_at o meaning (set ws n x) r ≡ f r
  before_set ws n x h e before r l = elim (cases_eq r n) [
    | inl s ↦ rw s (weight_set_same ws n x h ∙ e)
    | inr d ↦ weight_set_other ws n x r d ∙ before r (omega arith)
  ]

  -- what stands behind the first a places
  weight_drop : (a : ℕ) (ws : List K) (p : ℕ) → weight_at o meaning (drop a ws) p ≡ weight_at o meaning ws (a + p)
  weight_drop zero ws p = rw (zero-add p)
  weight_drop (suc a) [] p = refl
  weight_drop (suc a) (w ∷ ws) p = rw (suc-add a p) (weight_drop a ws p)

  -- what stands in the first n places
  pub weight_take : (n : ℕ) (ws : List K) (p : ℕ) → p < n → weight_at o meaning (take n ws) p ≡ weight_at o meaning ws p
  weight_take zero ws p h = absurd (omega arith)
  weight_take (suc n) [] p h = refl
  weight_take (suc n) (w ∷ ws) zero h = refl
  weight_take (suc n) (w ∷ ws) (suc p) h = weight_take n ws p (omega arith)

  -- what stands in a part of n places that begins at a
  pub weight_part : (a n : ℕ) (ws : List K) (p : ℕ) → p < n → weight_at o meaning (take n (drop a ws)) p ≡ weight_at o meaning ws (a + p)
  weight_part a n ws p h = weight_take n (drop a ws) p h ∙ weight_drop a ws p

  -- the first of two lists
  pub weight_first : (xs ys : List K) (p : ℕ) → p < length xs → weight_at o meaning (xs ++ ys) p ≡ weight_at o meaning xs p
  weight_first [] ys p h = absurd (omega arith)
  weight_first (x ∷ xs) ys zero h = refl
  weight_first (x ∷ xs) ys (suc p) h = weight_first xs ys p (omega arith)

  -- the second of two lists
  pub weight_second : (xs ys : List K) (p : ℕ) → weight_at o meaning (xs ++ ys) (length xs + p) ≡ weight_at o meaning ys p
  weight_second [] ys p = rw (zero-add p)
  weight_second (x ∷ xs) ys p = rw (suc-add (length xs) p) (weight_second xs ys p)

  module _ (a n : ℕ) (ws ys : List K) (begins : a ≤ length ws) (long : length ys ≡ n) where
    -- what a write to a part puts there
    pub weight_put_in : (p : ℕ) → p < n → weight_at o meaning (put_mid a n ws ys) (a + p) ≡ weight_at o meaning ys p
    weight_put_in p h =
        let front = length-take-le a ws begins in
        let second = weight_second (take a ws) (ys ++ drop n (drop a ws)) p in
        rw front at second ∙ weight_first ys (drop n (drop a ws)) p (omega arith)

    -- it changes nothing before the part
    pub weight_put_before : (p : ℕ) → p < a → weight_at o meaning (put_mid a n ws ys) p ≡ weight_at o meaning ws p
    weight_put_before p h =
        let front = length-take-le a ws begins in
        weight_first (take a ws) (ys ++ drop n (drop a ws)) p (omega arith) ∙ weight_take a ws p h

    -- nor behind it
    pub weight_put_behind : (p : ℕ) → a + n ≤ p → weight_at o meaning (put_mid a n ws ys) p ≡ weight_at o meaning ws p
    weight_put_behind p h =
        let front = length-take-le a ws begins in
        let r = p - (a + n) in
        let second = weight_second (take a ws) (ys ++ drop n (drop a ws)) (n + r) in
        let third = weight_second ys (drop n (drop a ws)) r in
        let here : a + (n + r) ≡ p = omega arith in
        rw (front, here) at second ∙ rw long at third ∙ weight_drop n (drop a ws) r ∙ weight_drop a ws (n + r) ∙ ap (weight_at o meaning ws) here

-- row r of a table of rows of d places has the weights f
abbrev pub RowIs : {K W : Type 0} → Ops W → (K → W) → ℕ → List K → ℕ → (ℕ → W) → Type 0
RowIs o meaning d ws r f = (q : ℕ) → q < d → table_of o meaning d ws r q ≡ f q

-- a row n of d places is written; k is its length as the code has it
module _ {K W : Type 0} (o : Ops W) (meaning : K → W) (d n k : ℕ) (ws ys : List K) (same : k ≡ d) (begins : n * d ≤ length ws) (long : length ys ≡ d) where
  -- it has what was written
  pub row_put_in : {f : ℕ → W} → ((q : ℕ) → q < d → weight_at o meaning ys q ≡ f q) → RowIs o meaning d (put_mid (n * d) k ws ys) n f
  row_put_in e = rw same (λ q h. weight_put_in o meaning (n * d) d ws ys begins long q h ∙ e q h)

  -- the other rows are as they were
  pub row_put_out : {f : ℕ → W} (r : ℕ) → (r ≡ n → ⊥) → RowIs o meaning d ws r f → RowIs o meaning d (put_mid (n * d) k ws ys) r f
  row_put_out r other e = rw same (λ q h. elim (cases_lt r n) [
    | inl x ↦ weight_put_before o meaning (n * d) d ws ys begins long (r * d + q) (digits_lt x h) ∙ e q h
    | inr x ↦ weight_put_behind o meaning (n * d) d ws ys begins long (r * d + q) (row_before d n r q (omega arith)) ∙ e q h
  ])

  -- one more row is done
  pub upto_put : {f : ℕ → ℕ → W} {Left Left' : ℕ → Type 0} → ((q : ℕ) → q < d → weight_at o meaning ys q ≡ f n q) →
      ((r : ℕ) → (r ≡ n → ⊥) → Left r → Left' r) → Upto (λ r. RowIs o meaning d ws r (f r)) Left n →
      Upto (λ r. RowIs o meaning d (put_mid (n * d) k ws ys) r (f r)) Left' (n + 1)
  upto_put {f} e left u = upto_more n u (row_put_in e) (λ r x. row_put_out {f = f r} r x) left

module _ {K W : Type 0} (o : Ops W) (meaning : K → W) (d : ℕ) where
  -- a table is that of the first places of its list
  pub table_take : (ws : List K) → Entries d (table_of o meaning d (take (d * d) ws)) (table_of o meaning d ws)
  table_take ws i k h l = weight_take o meaning (d * d) ws (i * d + k) (digits_lt h l)

  -- and what stands behind does not matter
  pub table_front : (xs ys : List K) → length xs ≡ d * d → Entries d (table_of o meaning d (xs ++ ys)) (table_of o meaning d xs)
  table_front xs ys e i k h l = weight_first o meaning xs ys (i * d + k) (rw e (digits_lt h l))
