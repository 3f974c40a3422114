-- What the laws give of joins and chains of weights, and of finite joins.
use Rattle.std.proofs.Common.{◌≡◌, ℕ, zero, suc, ◌+◌, ◌*◌, ◌/◌, ◌%◌, ◌<◌, Bool, true, false, cond, eqb, List, [], ◌∷◌, sym, refl, ap, ◌∙◌, ap₂, add-zero, add-suc, suc-mul, zero-mul, arith}
use mathlib.Core.Path.{fun_ext}
use native.Mathlib.Decide.{le_ind}
use lib.Arith.{digits_div, digits_mod}
use Rattle.std.proofs.lemmas.Bool.{eq-eqb, ne_eqb, cond-true, cond-false}
use Rattle.weights.specs.Semiring.{Ops, Plain, Commutes}
use Rattle.charts.specs.Sums.{sum, sum_lists}
use Rattle.machines.specs.Closure.{diagonal}

module _ {W : Type 0} (o : Ops W) (P : W → Type 0) (none : P o.nil) (two : (x y : W) → P x → P y → P (o.plus x y)) where
  -- what zero has, joins of two keep and each term has, a finite join has
  pub sum_holds : (n : ℕ) (f : ℕ → W) → ((i : ℕ) → P (f i)) → P (sum o n f)
  sum_holds zero f h = none
  sum_holds (suc n) f h = two _ _ (sum_holds n f h) (h n)

  -- and so has a join over lists
  pub lists_holds : (n r : ℕ) (f : List ℕ → W) → ((es : List ℕ) → P (f es)) → P (sum_lists o n r f)
  lists_holds n zero f h = h []
  lists_holds n (suc r) f h = sum_holds n _ (λ e. lists_holds n r (λ es. f (e ∷ es)) (λ es. h (e ∷ es)))

module _ {W : Type 0} {o : Ops W} (laws : Plain o) where
  open o use {nil, unit, plus, times}
  open laws use {plus_assoc, plus_comm, nil_plus, times_assoc, unit_times, times_unit}
  open laws use {times_plus, plus_times, nil_times, times_nil}

  -- zero joined on the right changes nothing
  pub plus_nil : (a : W) → plus a nil ≡ a
  plus_nil a = plus_comm a nil ∙ nil_plus a

  -- joined with a chain that begins with zero, nothing changes
  pub nil_joined : {a b c : W} → b ≡ nil → a ≡ plus a (times b c)
  nil_joined {a} {b} {c} e = sym (rw e (ap (plus a) (nil_times c) ∙ plus_nil a))

  -- the first of three may come second
  pub plus_swap : (a b c : W) → plus a (plus b c) ≡ plus b (plus a c)
  plus_swap a b c = sym (plus_assoc a b c) ∙ ap (λ x. plus x c) (plus_comm a b) ∙ plus_assoc b a c

  -- the last two of three may change places
  pub plus_last : (a b c : W) → plus (plus a b) c ≡ plus (plus a c) b
  plus_last a b c = simp (plus_assoc, plus_comm)

  -- two joins of two, joined crosswise
  pub plus_cross : (a b c d : W) → plus (plus a b) (plus c d) ≡ plus (plus a c) (plus b d)
  plus_cross a b c d = simp (plus_assoc, plus_swap)

  -- two chains of two, chained crosswise
  pub times_cross : Commutes o → (a b c d : W) → times (times a b) (times c d) ≡ times (times a c) (times b d)
  times_cross commutes a b c d =
      times_assoc a b (times c d)
      ∙ ap (times a) (sym (times_assoc b c d) ∙ ap (λ x. times x d) (commutes b c) ∙ times_assoc c b d)
      ∙ sym (times_assoc a c (times b d))

  -- zero, whatever the test
  pub cond_nil : (b : Bool) → cond b nil nil ≡ nil
  cond_nil true = refl
  cond_nil false = refl

  -- a tested weight and then another
  pub cond_times : (b : Bool) (x y : W) → times (cond b x nil) y ≡ cond b (times x y) nil
  cond_times true x y = refl
  cond_times false x y = nil_times y

  -- a weight and then a tested one
  pub times_cond : (b : Bool) (x y : W) → times x (cond b y nil) ≡ cond b (times x y) nil
  times_cond true x y = refl
  times_cond false x y = times_nil x

  -- one or zero by a test, and then a weight
  pub test_times : (b : Bool) (x : W) → times (cond b unit nil) x ≡ cond b x nil
  test_times true x = unit_times x
  test_times false x = nil_times x

  -- a weight, and then one or zero by a test
  pub times_test : (b : Bool) (x : W) → times x (cond b unit nil) ≡ cond b x nil
  times_test true x = times_unit x
  times_test false x = times_nil x

  -- joins of equal terms are equal
  pub sum_cong : (n : ℕ) {f g : ℕ → W} → ((i : ℕ) → i < n → f i ≡ g i) → sum o n f ≡ sum o n g
  sum_cong zero h = refl
  sum_cong (suc n) h = ap₂ plus (sum_cong n (λ i l. h i (omega arith))) (h n (omega arith))

  -- a join of zeros is zero
  pub sum_nil : (n : ℕ) → sum o n (λ _. nil) ≡ nil
  sum_nil zero = refl
  sum_nil (suc n) = plus_nil (sum o n (λ _. nil)) ∙ sum_nil n

  -- the first term taken out of a join
  pub sum_first : (n : ℕ) (f : ℕ → W) → sum o (suc n) f ≡ plus (f zero) (sum o n (λ i. f (suc i)))
  sum_first zero f = plus_comm nil (f zero)
  sum_first (suc n) f =
      ap (λ x. plus x (f (suc n))) (sum_first n f) ∙ plus_assoc (f zero) (sum o n (λ i. f (suc i))) (f (suc n))

  -- a join of joins of two, taken apart
  pub sum_plus : (n : ℕ) (f g : ℕ → W) → sum o n (λ i. plus (f i) (g i)) ≡ plus (sum o n f) (sum o n g)
  sum_plus zero f g = sym (nil_plus nil)
  sum_plus (suc n) f g = cc (sum_plus n f g, plus_cross (sum o n f) (sum o n g) (f n) (g n))

  -- the two joins of a join of joins change places
  pub sum_swap : (n m : ℕ) (f : ℕ → ℕ → W) → sum o n (λ i. sum o m (f i)) ≡ sum o m (λ j. sum o n (λ i. f i j))
  sum_swap zero m f = sym (sum_nil m)
  sum_swap (suc n) m f =
      ap (λ x. plus x (sum o m (f n))) (sum_swap n m f) ∙ sym (sum_plus m (λ j. sum o n (λ i. f i j)) (f n))

  -- a factor on the left goes into the join
  pub times_sum : (n : ℕ) (x : W) (f : ℕ → W) → times x (sum o n f) ≡ sum o n (λ i. times x (f i))
  times_sum zero x f = times_nil x
  times_sum (suc n) x f = times_plus x (sum o n f) (f n) ∙ ap (λ y. plus y (times x (f n))) (times_sum n x f)

  -- a factor on the right goes into the join
  pub sum_times : (n : ℕ) (f : ℕ → W) (x : W) → times (sum o n f) x ≡ sum o n (λ i. times (f i) x)
  sum_times zero f x = nil_times x
  sum_times (suc n) f x = plus_times (sum o n f) (f n) x ∙ ap (λ y. plus y (times (f n) x)) (sum_times n f x)

  -- the join of m + n terms is that of the first m and that of the n others
  sum_append : (m n : ℕ) (f : ℕ → W) → sum o (m + n) f ≡ plus (sum o m f) (sum o n (λ i. f (m + i)))
  sum_append m zero f = rw (add-zero m) (sym (plus_nil (sum o m f)))
  sum_append m (suc n) f =
      let before = ap (λ x. plus x (f (m + n))) (sum_append m n f) in
      rw (add-suc m n) (before ∙ plus_assoc (sum o m f) (sum o n (λ i. f (m + i))) (f (m + n)))

  -- the join of m * n terms goes row by row, n to a row
  sum_rows : (m n : ℕ) (f : ℕ → W) → sum o (m * n) f ≡ sum o m (λ p. sum o n (λ q. f (p * n + q)))
  sum_rows zero n f = rw (zero-mul n)
  sum_rows (suc m) n f =
      let before = ap (λ x. plus x (sum o n (λ q. f (m * n + q)))) (sum_rows m n f) in
      rw (suc-mul m n) (sum_append (m * n) n f ∙ before)

  -- in row p of the pairs p * n + q the term of p is a factor of all
  sum_row : (n p : ℕ) (f g : ℕ → W) →
      sum o n (λ q. times (f ((p * n + q) / n)) (g ((p * n + q) % n))) ≡ times (f p) (sum o n g)
  sum_row n p f g =
      sum_cong n (λ q l. ap₂ (λ i j. times (f i) (g j)) (digits_div p l) (digits_mod p l)) ∙ sym (times_sum n (f p) g)

  -- a join over the pairs p * n + q of a term of p chained with a term of q is the chain of two joins
  pub sum_pairs : (m n : ℕ) (f g : ℕ → W) →
      sum o (m * n) (λ i. times (f (i / n)) (g (i % n))) ≡ times (sum o m f) (sum o n g)
  sum_pairs m n f g =
      sum_rows m n (λ i. times (f (i / n)) (g (i % n)))
      ∙ sum_cong m (λ p _. sum_row n p f g)
      ∙ sym (sum_times m f (sum o n g))

  -- a join whose terms are zero but for that at k
  sum_single : (n k : ℕ) (f : ℕ → W) → k < n → ((i : ℕ) → (i ≡ k → ⊥) → f i ≡ nil) → sum o n f ≡ f k
  sum_single n k f h off =
      let here = ap (λ x. plus x (f k)) (sum_cong k (λ i l. off i (omega arith)) ∙ sum_nil k) ∙ nil_plus (f k) in
      le_ind (λ m. sum o m f ≡ f k) here (λ m l e. ap₂ plus e (off m (omega arith)) ∙ plus_nil (f k)) n h

  -- a join of which a test picks the term at k
  pub sum_pick : (n k : ℕ) (f : ℕ → W) → k < n → sum o n (λ i. cond (eqb k i) (f i) nil) ≡ f k
  sum_pick n k f h =
      sum_single n k _ h (λ i d. cond-false _ _ _ (ne_eqb k i (omega arith))) ∙ cond-true _ _ _ (eq-eqb k k refl)

  -- a row chained with column k of the diagonal is the row's entry k
  pub sum_diagonal : (n k : ℕ) (f : ℕ → W) → k < n → sum o n (λ i. times (f i) (diagonal o i k)) ≡ f k
  sum_diagonal n k f h =
      sum_cong n (λ i _. times_test (eqb i k) (f i))
      ∙ sum_single n k _ h (λ i d. cond-false _ _ _ (ne_eqb i k d))
      ∙ cond-true _ _ _ (eq-eqb k k refl)

  -- row k of the diagonal chained with a column is the column's entry k
  pub diagonal_sum : (n k : ℕ) (f : ℕ → W) → k < n → sum o n (λ i. times (diagonal o k i) (f i)) ≡ f k
  diagonal_sum n k f h = sum_cong n (λ i _. test_times (eqb k i) (f i)) ∙ sum_pick n k f h

  -- joins over lists of equal terms are equal
  pub lists_cong : (n r : ℕ) {f g : List ℕ → W} → ((es : List ℕ) → f es ≡ g es) →
      sum_lists o n r f ≡ sum_lists o n r g
  lists_cong n r h = ap (sum_lists o n r) (fun_ext h)

  -- a join over lists of joins of two, taken apart
  pub lists_plus : (n r : ℕ) (f g : List ℕ → W) →
      sum_lists o n r (λ es. plus (f es) (g es)) ≡ plus (sum_lists o n r f) (sum_lists o n r g)
  lists_plus n zero f g = refl
  lists_plus n (suc r) f g =
      sum_cong n (λ e _. lists_plus n r (λ es. f (e ∷ es)) (λ es. g (e ∷ es)))
      ∙ sum_plus n (λ e. sum_lists o n r (λ es. f (e ∷ es))) (λ e. sum_lists o n r (λ es. g (e ∷ es)))

  -- a factor on the left goes into a join over lists
  pub times_lists : (n r : ℕ) (x : W) (f : List ℕ → W) →
      times x (sum_lists o n r f) ≡ sum_lists o n r (λ es. times x (f es))
  times_lists n zero x f = refl
  times_lists n (suc r) x f =
      times_sum n x (λ e. sum_lists o n r (λ es. f (e ∷ es))) ∙ sum_cong n (λ e _. times_lists n r x (λ es. f (e ∷ es)))
