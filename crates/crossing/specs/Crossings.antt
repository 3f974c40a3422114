-- Crossing two machines: what is asked, the pairs of states, and what the crossing's weights are.
use Rattle.std.specs.Prelude.{◌≡◌, ℕ, ◌*◌, ◌/◌, ◌%◌, ◌<◌, ◌≤◌, List, length, Ok, Result, ◌==◌, nat_le}
use Rattle.weights.specs.Semiring.{Ops}
use Rattle.charts.specs.Automaton.{Within}
use Rattle.machines.specs.Closure.{Table}
use Rattle.machines.specs.Machine.{Machine, crossed, told}
use Rattle.machines.specs.Arcs.{block_entry}
use Rattle.machines.specs.Tables.{weight_at}
use Rattle.charts.specs.declared.refusals.Refusal.{Refusal}
use Rattle.charts.specs.declared.refusals.Refusal.TheVariants.{Memory, LetterCounts, TooManyStates}
use Rattle.machines.specs.Meant.{machine_of}
use Rattle.machines.specs.Questions.{ask}
use Rattle.machines.specs.Shapes.{Lent, machine_size}

-- crossing two machines onto a table of so many places
abbrev pub crossing_answer : {K : Type 0} → (first second : Lent K) → ℕ → Result Unit Refusal
crossing_answer first second table =
    let states = first.states * second.states in
    ask (first.letters == second.letters) LetterCounts
    (ask (nat_le states 64) TooManyStates (ask (nat_le (machine_size states first.letters) table) Memory (Ok tt)))

-- the crossing of two machines in a list: how many weights it has, and the machine that it means
abbrev pub pair_size : {K : Type 0} → (x y : Lent K) → ℕ
pair_size x y = machine_size (x.states * y.states) x.letters

abbrev pub pair_machine : {K W : Type 0} → Ops W → (K → W) → (x y : Lent K) → List K → Machine W
pair_machine o meaning x y = machine_of o meaning (x.states * y.states) x.letters

-- each weight of the new row is the factor chained with the other row's
abbrev pub Chained : {K W : Type 0} → Ops W → (K → W) → W → (other new : List K) → Type 0
Chained o meaning factor other new =
    (k : ℕ) → k < length other → weight_at o meaning new k ≡ o.times factor (weight_at o meaning other k)

-- the weight of the pair p, q, whose number is p * n + q for rows of m and n weights, is the chain of the two
abbrev pub Paired : {K W : Type 0} → Ops W → (K → W) → (first second pairs : List K) → Type 0
Paired o meaning first second pairs =
    (i : ℕ) → i < length first * length second →
    weight_at o meaning pairs i ≡ o.times (weight_at o meaning first (i / length second)) (weight_at o meaning second (i % length second))

-- the table of the pairs: each entry is the chain of an entry of the first table and one of the second, of n states
abbrev pub pair_table : {W : Type 0} → Ops W → ℕ → (first second : Table W) → Table W
pair_table o n first second i k = o.times (first (i / n) (k / n)) (second (i % n) (k % n))

-- the blocks of a crossing, one behind another from that of letter 1 on
abbrev pub PairBlocks : {K W : Type 0} → Ops W → (K → W) → (x y : Machine W) → List K → Type 0
PairBlocks o meaning x y blocks =
    let d = x.states * y.states in
    (c i k : ℕ) → 1 ≤ c → c ≤ x.letters → i < d → k < d → block_entry o meaning d blocks c i k ≡ (crossed o x y).block c i k

-- what the machine z tells of any letters is the chain of what x and y tell
abbrev pub Multiplies : {W : Type 0} → Ops W → (x y z : Machine W) → Type 0
Multiplies o x y z = (w : List ℕ) → Within x.letters w → told o z w ≡ o.times (told o x w) (told o y w)
