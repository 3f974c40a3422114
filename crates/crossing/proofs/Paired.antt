-- The numbers of pairs: p * n + q for p below m and q below n.
use Rattle.std.proofs.Common.{◌≡◌, ℕ, zero, suc, ◌+◌, ◌-◌, ◌*◌, ◌/◌, ◌%◌, ◌<◌, ◌≤◌, cond, ◌&&◌, leb, List, [], length, take, drop, sym, ap, ◌∙◌, ap₂, mul-zero, mul-le-mul_right, arith}
use native.Mathlib.Nat.{add-sub_cancel_left}
use lib.Arith.{digits_div, digits_mod, digits_lt}
use borrow.Rule.Slice.PartMut.{put_mid}
use Rattle.std.proofs.lemmas.Nat.{div-add-mod', div_below, mod_below}
use Rattle.weights.specs.Semiring.{Ops}
use Rattle.machines.specs.Shapes.{machine_size, block_part}
use Rattle.machines.specs.Tables.{weight_at, table_of, Entries}
use Rattle.machines.specs.Arcs.{block_entry}
use Rattle.machines.specs.Machine.{Machine, crossed}
use Rattle.crossing.specs.Crossings.{Paired, pair_table}
use Rattle.machines.proofs.Places.{Upto, RowIs, upto_more, row_fits, block_fits, length_part, weight_part}
use Rattle.machines.proofs.Parts.{block_answered, row_room}
use Rattle.machines.proofs.Added.{block_put_in, block_put_out}

-- where there is a pair there is a second
seconds : (m n i : ℕ) → i < m * n → 0 < n
seconds m zero i h = absurd (omega (arith, rw (mul-zero m) at h))
seconds m (suc n) i h = omega arith

-- the two numbers of a pair
pub pair_first : (m n i : ℕ) → i < m * n → i / n < m
pair_first m n i h = div_below i n m (seconds m n i h) h

pub pair_second : (m n i : ℕ) → i < m * n → i % n < n
pair_second m n i h = mod_below i n (seconds m n i h)

-- rows that are the chains of a first weight and a row of seconds are the pairs
pub rows_paired : {K W : Type 0} (o : Ops W) (meaning : K → W) (first second pairs : List K) →
    ((r : ℕ) → r < length first → RowIs o meaning (length second) pairs r (λ q. o.times (weight_at o meaning first r) (weight_at o meaning second q))) →
    Paired o meaning first second pairs
rows_paired o meaning first second pairs rows i h =
    let n = length second in
    ap (weight_at o meaning pairs) (sym (div-add-mod' i n))
    ∙ rows (i / n) (pair_first (length first) n i h) (i % n) (pair_second (length first) n i h)

-- the pairs of row p of the first table and row q of the second are the row of the pair p, q
pub pair_row : {K W : Type 0} (o : Ops W) (meaning : K → W) (m n p q : ℕ) (first second upper lower row : List K) → q < n →
    upper ≡ take m (drop (p * m) first) → lower ≡ take n (drop (q * n) second) → length upper ≡ m → length lower ≡ n → Paired o meaning upper lower row →
    (k : ℕ) → k < m * n → weight_at o meaning row k ≡ pair_table o n (table_of o meaning m first) (table_of o meaning n second) (p * n + q) k
pair_row o meaning m n p q first second upper lower row h ups lows long wide paired k l =
    let left : weight_at o meaning upper (k / n) ≡ table_of o meaning m first p (k / n) =
    ap (λ ws. weight_at o meaning ws (k / n)) ups ∙ weight_part o meaning (p * m) m first (k / n) (pair_first m n k l) in
    let right : weight_at o meaning lower (k % n) ≡ table_of o meaning n second q (k % n) =
    ap (λ ws. weight_at o meaning ws (k % n)) lows ∙ weight_part o meaning (q * n) n second (k % n) (pair_second m n k l) in
    (rw (long, wide) at paired) k l
    ∙ ap₂ o.times
    (left ∙ ap (λ x. table_of o meaning m first x (k / n)) (sym (digits_div p h)))
    (right ∙ ap (λ x. table_of o meaning n second x (k % n)) (sym (digits_mod p h)))

-- the blocks of a crossing below n are done
abbrev pub CrossedBelow : {K W : Type 0} → Ops W → (K → W) → (x y : Machine W) → List K → ℕ → Type 0
CrossedBelow o meaning x y blocks =
    let d = x.states * y.states in
    Upto (λ c. 1 ≤ c → (i k : ℕ) → i < d → k < d → block_entry o meaning d blocks c i k ≡ (crossed o x y).block c i k) (λ c. Unit)

-- one more block is; m is its size as the code has it
pub crossed_more : {K W : Type 0} (o : Ops W) (meaning : K → W) (x y : Machine W) (a m : ℕ) (ws ys : List K) → 1 ≤ a →
    m ≡ x.states * y.states * (x.states * y.states) → a * (x.states * y.states * (x.states * y.states)) ≤ length ws →
    length ys ≡ x.states * y.states * (x.states * y.states) →
    Entries (x.states * y.states) (table_of o meaning (x.states * y.states) ys) ((crossed o x y).block a) →
    CrossedBelow o meaning x y ws a → CrossedBelow o meaning x y (put_mid ((a - 1) * (x.states * y.states * (x.states * y.states))) m ws ys) (a + 1)
crossed_more o meaning x y a m ws ys some same fits long step done =
    let d = x.states * y.states in
    upto_more a done (λ b i k h l. block_put_in o meaning d a m ws ys some same fits long i k h l ∙ step i k h l)
    (λ c z held b i k h l. block_put_out o meaning d a m ws ys some same fits long c i k b z h l ∙ held b i k h l) (λ c z u. tt)

-- where the blocks of d states lie one behind another, each lies in the list; s is the number of states as the code has it
pub pair_block_fits : (l a d : ℕ) {s room : ℕ} → s ≡ d → 1 ≤ a → a ≤ l → room ≡ l * (d * d) → (a - 1) * (s * s) + s * s ≤ room
pair_block_fits l a d es b u e = rw (es, e) (block_fits (d * d) l a b u)

-- the block of one more of l letters is done, where the blocks lie one behind another; s and f are the number of states and the letter as the code
-- has them
pub crossed_letter : {K W : Type 0} (o : Ops W) (meaning : K → W) (x y : Machine W) (l a : ℕ) {s f : ℕ} (ws ys : List K) → s ≡ x.states * y.states →
    f ≡ a → 1 ≤ a → a ≤ l → length ws ≡ l * (x.states * y.states * (x.states * y.states)) →
    length ys ≡ length (take ((f - 1) * (s * s) + s * s - (f - 1) * (s * s)) (drop ((f - 1) * (s * s)) ws)) →
    Entries (x.states * y.states) (table_of o meaning (x.states * y.states) ys) ((crossed o x y).block a) → CrossedBelow o meaning x y ws a →
    CrossedBelow o meaning x y (put_mid ((f - 1) * (s * s)) ((f - 1) * (s * s) + s * s - (f - 1) * (s * s)) ws ys) (a + 1)
crossed_letter o meaning x y l a {s} {f} ws ys es ef some within room same step done =
    let d = x.states * y.states in
    let size = d * d in
    let part = pair_block_fits l f d es (omega arith) (omega arith) room in
    let long : length ys ≡ s * s = same ∙ length_part ((f - 1) * (s * s)) (s * s) ws part in
    let fits : a * size ≤ l * size = mul-le-mul_right size within in
    rw (es, ef)
    (crossed_more o meaning x y a ((a - 1) * size + size - (a - 1) * size) ws ys some (add-sub_cancel_left ((a - 1) * size) size) (omega arith)
    (long ∙ ap₂ ◌*◌ es es) step done)

-- the pairs of two parts, which the code was answered as s and t
pub paired_parts : {K W : Type 0} (o : Ops W) (meaning : K → W) {m n : ℕ} {s t first second : List K} (pairs : List K) → s ≡ first → t ≡ second →
    length s ≡ m → length t ≡ n → Paired o meaning s t pairs → (i : ℕ) → i < m * n →
    weight_at o meaning pairs i ≡ o.times (weight_at o meaning first (i / n)) (weight_at o meaning second (i % n))
paired_parts o meaning {m} {n} {s} {t} {first} {second} pairs es et long wide paired = rw (es, et) at (rw (long, wide) at paired)

-- the row of a pair ends within its block; k and d are the second's states and the number of pairs as the code has them
pub pair_row_fits : (m n : ℕ) {k d p q room : ℕ} → k ≡ n → d ≡ m * n → room ≡ m * n * (m * n) → p < m → q < n → (p * k + q) * d + d ≤ room
pair_row_fits m n ek ed e h l = rw (ek, ed) (row_fits (m * n) {m = m * n} e (digits_lt h l))

-- what the code cuts out of a machine's block as the row of state i; k is the number of states as the code has it
pub record RowCut {K : Type 0} (d a i k : ℕ) (table block : List K) : Type 0 where
  pub fits : i * k + k ≤ length block
  pub value : take (i * k + k - i * k) (drop (i * k) block) ≡ take d (drop (i * d) (block_part d a table))
  pub long : length (take (i * k + k - i * k) (drop (i * k) block)) ≡ d

pub row_cut : {K : Type 0} (d l a i : ℕ) {k : ℕ} (table block : List K) → k ≡ d → 1 ≤ a → a ≤ l → i < d → machine_size d l ≤ length table →
    block ≡ cond (leb 1 a && leb a l) (block_part d a table) [] → RowCut d a i k table block
row_cut d l a i table block ek some within below room is =
    let fits = row_room d l a i table block some within below room is in
    rw ek
    (record {
      fits = fits;
      value = ap₂ (λ n b. take n (drop (i * d) b)) (add-sub_cancel_left (i * d) d) (block_answered d l a table block some within is);
      long = length_part (i * d) d block fits;
    })
