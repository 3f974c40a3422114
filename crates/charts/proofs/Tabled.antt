-- Tables of bytes: where two of them share none, and rows cut from a longer list.
use Rattle.std.proofs.Common.{◌≡◌, ℕ, zero, suc, ◌+◌, ◌-◌, ◌*◌, ◌/◌, ◌<◌, ◌≤◌, min, max, true, not, ◌&&◌, leb, List, ◌∷◌, length, take, drop, Decides, refl, ap, ◌∙◌, ap₂, ⊎_elim, suc-mul, add_comm, arith}
use Rattle.std.specs.Simd.{first_chunks}
use Rattle.std.proofs.lemmas.Bool.{cases_Bool, leb-false, leb-true, le-leb, and_from, and_parts}
use Rattle.std.proofs.lemmas.Bool.Decides.{same_from_decides, Decides-not, Decides-and, Decides-ltb, Decides-below_and}
use Rattle.std.proofs.lemmas.List.{take-take, drop-take, length-drop, length-take-le}
use Rattle.charts.specs.Format.{inside, in_table, share_none, tables_fit}
use Rattle.charts.specs.declared.reading.header.Header.{Header}

decides_leb : (a b : ℕ) → Decides (leb a b) (a ≤ b)
decides_leb a b = (leb-true a b, le-leb a b)

-- no byte below n is in both of two tables
Apart : (m d r k n : ℕ) → Type 0
Apart m d r k n = (i : ℕ) → i < n → (((m ≤ i) × (i < m + d)) × ((r ≤ i) × (i < r + k))) → ⊥

decides_share : (m d r k n : ℕ) → Decides (share_none (in_table m d) (in_table r k) n) (Apart m d r k n)
unfolding Apart
decides_share m d r k n =
    Decides-below_and (λ i. not (in_table m d i && in_table r k i)) _ (share_none (in_table m d) (in_table r k))
    (λ i. Decides-not _ (Decides-and _ _ (Decides-and _ _ (decides_leb m i) (Decides-ltb i (m + d))) (Decides-and _ _ (decides_leb r i) (Decides-ltb i (r + k)))))
    refl (λ _. refl) n

-- two tables within n bytes share none exactly where one of them ends before the other begins
decides_apart : (m d r k n : ℕ) → m + d ≤ n → Decides (leb (min (m + d) (r + k)) (max m r)) (Apart m d r k n)
unfolding Apart
decides_apart m d r k n inside = (
  λ e i h both. omega (arith, leb-true _ _ e),
  λ apart. ⊎_elim (λ e. e) (λ e. let h = leb-false _ _ e in absurd (apart (max m r) (omega arith) ((omega arith, omega arith), (omega arith, omega arith)))) (cases_Bool (leb (min (m + d) (r + k)) (max m r))),
)

-- so the tables of a header fit where both lie inside and one ends before the other begins
pub tables_fit_is : (h : Header) → 12 ≤ h.marks → h.marks + h.states ≤ h.total → 12 ≤ h.rows
    → h.rows + 12 * h.arcs ≤ h.total
    → leb (min (h.marks + h.states) (h.rows + 12 * h.arcs)) (max h.marks h.rows) ≡ tables_fit h
tables_fit_is h a b c d =
    let marks_inside = and_from _ _ (le-leb _ _ a) (le-leb _ _ b) in
    let rows_inside = and_from _ _ (le-leb _ _ c) (le-leb _ _ d) in
    let both = and_from (inside h.marks h.states h.total) (inside h.rows (12 * h.arcs) h.total) marks_inside rows_inside in
    let apart = same_from_decides _ _ (decides_apart h.marks h.states h.rows (12 * h.arcs) h.total b) (decides_share h.marks h.states h.rows (12 * h.arcs) h.total) in
    rw both apart

-- both tables lie behind the header, and end within the file
pub record Inside (h : Header) : Type 0 where
  pub marks_behind : 12 ≤ h.marks
  pub marks_end : h.marks + h.states ≤ h.total
  pub rows_behind : 12 ≤ h.rows
  pub rows_end : h.rows + 12 * h.arcs ≤ h.total

pub tables_inside : (h : Header) → tables_fit h ≡ true → Inside h
tables_inside h e =
    let marks_in = inside h.marks h.states h.total in
    let rows_in = inside h.rows (12 * h.arcs) h.total in
    let both = and_parts marks_in rows_in (and_parts (marks_in && rows_in) _ e).0 in
    let marks = and_parts (leb 12 h.marks) (leb (h.marks + h.states) h.total) both.0 in
    let rows = and_parts (leb 12 h.rows) (leb (h.rows + 12 * h.arcs) h.total) both.1 in
    record {
      marks_behind = leb-true _ _ marks.0;
      marks_end = leb-true _ _ marks.1;
      rows_behind = leb-true _ _ rows.0;
      rows_end = leb-true _ _ rows.1;
    }

-- rows cut from the front of a list are rows of the list
pub chunked_take : {X : Type 0} (w n : ℕ) (xs : List X) → first_chunks w n (take (n * w) xs) ≡ first_chunks w n xs
chunked_take w zero xs = refl
chunked_take w (suc n) xs =
    let front : take w (take (suc n * w) xs) ≡ take w xs = take-take w (suc n * w) xs (omega (arith, suc-mul n w)) in
    let more : drop w (take (suc n * w) xs) ≡ take (n * w) (drop w xs) = rw (suc-mul n w, add_comm (n * w) w) (drop-take w (n * w) xs) in
    ap₂ ◌∷◌ front (ap (first_chunks w n) more ∙ chunked_take w n (drop w xs))

-- the part of a list from place i on, by its length
pub part_is : {X : Type 0} (xs : List X) (i j m n : ℕ) → i ≡ m → j ≡ n → take ((i + j) - i) (drop i xs) ≡ take n (drop m xs)
part_is xs i j m n p q =
    let long : (i + j) - i ≡ n = omega arith in
    ap₂ (λ k l. take k (drop l xs)) long p

-- the rows of such a part, where the list holds it
pub chunked_part : {X : Type 0} (xs : List X) (i j m n : ℕ) → i ≡ m → j ≡ 12 * n → i + j ≤ length xs
    → first_chunks 12 (length (take ((i + j) - i) (drop i xs)) / 12) (take ((i + j) - i) (drop i xs)) ≡ first_chunks 12 n (drop m xs)
chunked_part xs i j m n p q h =
    let part = part_is xs i j m (n * 12) p (omega arith) in
    let within : n * 12 ≤ length (drop m xs) = simp length-drop (omega arith) in
    let long : length (take (n * 12) (drop m xs)) / 12 ≡ n = omega (arith, length-take-le (n * 12) (drop m xs) within) in
    rw (part, long) (chunked_take 12 n (drop m xs))
