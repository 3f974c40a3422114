-- A matrix of the code: the table that it means, and what a call makes of it.
use Rattle.std.specs.Prelude.{◌≡◌, ℕ, ◌*◌, cond, ◌&&◌, List, take, drop, ◌==◌}
use Rattle.std.specs.Borrow.{MutBor}
use Rattle.weights.specs.Semiring.{Ops}
use Rattle.machines.specs.declared.matrix.Matrix.{Matrix}
use Rattle.machines.specs.Closure.{Table}
use Rattle.machines.specs.Tables.{table_of, Entries}

-- the table that it means
abbrev pub matrix_of : {K W : Type 0} → Ops W → (K → W) → Matrix K → Table W
matrix_of o meaning m = table_of o meaning m.states m.weights.now

-- the weights from a state to each
abbrev pub row_of : {K : Type 0} → Matrix K → ℕ → List K
row_of m state = take m.states (drop (state * m.states) m.weights.now)

-- it has so many states, and lies in the memory that was lent as it stood there
pub record LiesIn {K : Type 0} (m : Matrix K) (d : ℕ) (lent : MutBor (List K)) : Type 0 where
  pub states : m.states ≡ d
  pub memory : m.weights.ghost_name ≡ lent.ghost_name
  pub weights : m.weights.now ≡ lent.now

-- it has the same states in the same memory, and its entries are now those of a table
pub record Becomes {K W : Type 0} (o : Ops W) (meaning : K → W) (old new : Matrix K) (t : Table W) : Type 0 where
  pub states : new.states ≡ old.states
  pub memory : new.weights.ghost_name ≡ old.weights.ghost_name
  pub entries : Entries old.states (table_of o meaning old.states new.weights.now) t

-- a weight joined into the entry from one state to another
abbrev pub entry_joined : {W : Type 0} → Ops W → (from to : ℕ) → W → Table W → Table W
entry_joined o from to w t i k = o.plus (t i k) (cond (from == i && to == k) w o.nil)

-- a factor chained with each weight of a row, joined into the row of a state
abbrev pub row_joined : {W : Type 0} → Ops W → ℕ → W → (ℕ → W) → Table W → Table W
row_joined o state factor other t i k = cond (state == i) (o.plus (t i k) (o.times factor (other k))) (t i k)
