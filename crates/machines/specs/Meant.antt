-- The machine that a list of weights means.
use Rattle.std.specs.Prelude.{ℕ, List, reverse}
use Rattle.weights.specs.Semiring.{Ops}
use Rattle.charts.specs.Automaton.{Automaton, Within, Settled}
use Rattle.machines.specs.Machine.{Machine, Alike, cleared, told}
use Rattle.machines.specs.Shapes.{Lent, start_part, end_part, block_part}
use Rattle.machines.specs.Tables.{weight_at, table_of}

-- the machine of so many states and letters that lies in a list
abbrev pub machine_of : {K W : Type 0} → Ops W → (K → W) → (states letters : ℕ) → List K → Machine W
machine_of o meaning states letters table = record {
  states = states;
  letters = letters;
  start = weight_at o meaning (start_part states table);
  final = weight_at o meaning (end_part states table);
  block = λ c. table_of o meaning states (block_part states c table);
}

-- what a machine of the code means
abbrev pub meant : {K W : Type 0} → Ops W → (K → W) → Lent K → Machine W
meant o meaning m = machine_of o meaning m.states m.letters m.table

-- what clearing makes of the chart of an automaton: the table's machine has the weights of the cleared chart, and for every
-- list of letters its start, blocks and ends give the settled sum over the chart's paths; a list has its last letter first
pub record Cleared {K W : Type 0} (o : Ops W) (meaning : K → W) (a : Automaton W) (table : List K) : Type 0 where
  pub entries : Alike (machine_of o meaning a.states a.letters table) (cleared o a)
  pub tells : (w : List ℕ) → Within a.letters w → Settled o a (reverse w) (told o (machine_of o meaning a.states a.letters table) w)
