-- The parts of a machine that a letter and a state name.
use Rattle.std.proofs.Common.{◌≡◌, ℕ, ◌+◌, ◌-◌, ◌*◌, ◌<◌, ◌≤◌, cond, ◌&&◌, leb, ltb, List, [], length, drop, ap, ◌∙◌, arith, length-drop, length-take-le}
use Rattle.std.proofs.lemmas.Bool.{le-leb, lt-ltb, and_from, cond-true}
use Rattle.machines.specs.Shapes.{machine_size, block_part, row_part}
use Rattle.machines.proofs.Places.{block_fits, row_fits}

-- what a machine answers as the block of a letter that it has
pub block_answered : {K : Type 0} (d l c : ℕ) (table block : List K) → 1 ≤ c → c ≤ l → block ≡ cond (leb 1 c && leb c l) (block_part d c table) [] →
    block ≡ block_part d c table
block_answered d l c table block b u e = e ∙ cond-true _ _ _ (and_from _ _ (le-leb 1 c b) (le-leb c l u))

-- its length
pub block_long : {K : Type 0} (d l c : ℕ) (table : List K) → 1 ≤ c → c ≤ l → machine_size d l ≤ length table → length (block_part d c table) ≡ d * d
block_long d l c table b u room =
    let fits = block_fits (d * d) l c b u in
    length-take-le (d * d) (drop (2 * d + (c - 1) * (d * d)) table) (rw (length-drop (2 * d + (c - 1) * (d * d)) table) (omega arith))

-- and so of a row, with its length, for whoever asks a machine for one
pub row_answered : {K : Type 0} (d l c i : ℕ) (table row : List K) → 1 ≤ c → c ≤ l → i < d → machine_size d l ≤ length table →
    row ≡ cond (leb 1 c && leb c l && ltb i d) (row_part d c i table) [] → (row ≡ row_part d c i table) × (length row ≡ d)
row_answered d l c i table row b u h room e =
    let fits = row_fits d {m = d} (block_long d l c table b u room) h in
    let same = e ∙ cond-true _ _ _ (and_from _ _ (and_from _ _ (le-leb 1 c b) (le-leb c l u)) (lt-ltb i d h)) in
    let long = length-take-le d (drop (i * d) (block_part d c table)) (rw (length-drop (i * d) (block_part d c table)) (omega arith)) in
    (same, ap length same ∙ long)

-- a row ends within the block that was answered
pub row_room : {K : Type 0} (d l c i : ℕ) (table block : List K) → 1 ≤ c → c ≤ l → i < d → machine_size d l ≤ length table →
    block ≡ cond (leb 1 c && leb c l) (block_part d c table) [] → i * d + d ≤ length block
row_room d l c i table block b u h room e =
    rw (block_answered d l c table block b u e) (row_fits d {m = d} (block_long d l c table b u room) h)
