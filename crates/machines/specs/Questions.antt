-- What each call asks before its first write, and what it leaves of the memory that it was handed.
use Rattle.std.specs.Prelude.{◌≡◌, ℕ, ◌*◌, Bool, cond, ◌&&◌, List, length, drop, Ok, Err, Result, nat_le}
use Rattle.machines.specs.Shapes.{Lent, states_fit, letters_fit, machine_size}
use Rattle.charts.specs.declared.refusals.Refusal.{Refusal}
use Rattle.charts.specs.declared.refusals.Refusal.TheVariants.{Limits, Memory}

-- a question: where it is not passed the call refuses, else the next decides
abbrev pub ask : {X : Type 0} → Bool → Refusal → Result X Refusal → Result X Refusal
ask passes refusal next = cond passes next (Err refusal)

-- closing a table, where the table and the scratch have so many places
abbrev pub closing_answer : (states table scratch : ℕ) → Result Unit Refusal
closing_answer states table scratch =
    ask (states_fit states) Limits (ask (nat_le (states * states) table && nat_le (states * states) scratch) Memory (Ok tt))

-- clearing a chart, where its silent table, the scratch and the machine's table have so many places
abbrev pub clearing_answer : (states letters silent scratch table : ℕ) → Result Unit Refusal
clearing_answer states letters silent scratch table =
    ask (nat_le (states * states) silent && nat_le (states * states) scratch && nat_le (machine_size states letters) table) Memory (Ok tt)

-- making a machine on a table: it has these numbers and this table
abbrev pub machine_answer : {K : Type 0} → (states letters : ℕ) → List K → Result (Lent K) Refusal
machine_answer states letters table =
    ask (states_fit states && letters_fit letters) Limits
    (ask (nat_le (machine_size states letters) (length table)) Memory (Ok (record { states = states; letters = letters; table = table })))

-- the first n places are free where the call is done, none where it refuses; behind them nothing has changed
abbrev pub KeptBehind : {K : Type 0} → Bool → ℕ → (old new : List K) → Type 0
KeptBehind done n old new = drop (cond done n 0) new ≡ drop (cond done n 0) old
