-- How a machine lies in a list of weights, and the limits of its numbers.
use Rattle.std.specs.Prelude.{◌≡◌, ℕ, ◌+◌, ◌-◌, ◌*◌, ◌≤◌, Bool, ◌&&◌, List, length, take, drop, nat_le}

-- a table or a machine has 1 to 64 states, and a machine 1 to 15 letters
abbrev pub states_fit : ℕ → Bool
states_fit states = nat_le 1 states && nat_le states 64

abbrev pub letters_fit : ℕ → Bool
letters_fit letters = nat_le 1 letters && nat_le letters 15

-- a machine's weights: one for each start, one for each end, and a block of rows for each letter
abbrev pub machine_size : (states letters : ℕ) → ℕ
machine_size states letters = 2 * states + letters * (states * states)

-- the start weights come first, then the end weights, then the blocks of the letters from 1 on, each row by row
abbrev pub start_part : {K : Type 0} → ℕ → List K → List K
start_part states table = take states table

abbrev pub end_part : {K : Type 0} → ℕ → List K → List K
end_part states table = take states (drop states table)

abbrev pub block_part : {K : Type 0} → (states letter : ℕ) → List K → List K
block_part states letter table = take (states * states) (drop (2 * states + (letter - 1) * (states * states)) table)

-- the row of a state in the block of a letter
abbrev pub row_part : {K : Type 0} → (states letter state : ℕ) → List K → List K
row_part states letter state table = take states (drop (state * states) (block_part states letter table))

-- what a matrix keeps: at most 64 states, and a weight from each to each
abbrev pub Square : {K : Type 0} → ℕ → List K → Type 0
Square states weights = (states ≤ 64) × (length weights ≡ states * states)

-- what a machine keeps: numbers in the limits, and a table that is long enough
abbrev pub Shaped : {K : Type 0} → (states letters : ℕ) → List K → Type 0
Shaped states letters table =
    (1 ≤ states) × (states ≤ 64) × (1 ≤ letters) × (letters ≤ 15) × (machine_size states letters ≤ length table)

-- what a machine is made of
pub record Lent (K : Type 0) : Type 0 where
  pub states : ℕ
  pub letters : ℕ
  pub table : List K
