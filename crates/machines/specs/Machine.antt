-- Machines: start and end weights and a table for each letter; clearing, crossing, and the weight of a list of letters.
use Rattle.std.specs.Prelude.{◌≡◌, ℕ, ◌*◌, ◌/◌, ◌%◌, ◌<◌, ◌≤◌, cond, ◌&&◌, List, [], ◌∷◌, ◌==◌}
use Rattle.weights.specs.Semiring.{Ops}
use Rattle.charts.specs.Sums.{sum}
use Rattle.charts.specs.Automaton.{Automaton}
use Rattle.machines.specs.Closure.{Table, closed}

pub record Machine (W : Type 0) : Type 0 where
  pub states : ℕ
  pub letters : ℕ
  pub start : ℕ → W
  pub final : ℕ → W
  pub block : ℕ → Table W

-- the join of the arcs from i to k that spell the letter c
abbrev pub arc_table : {W : Type 0} → Ops W → Automaton W → ℕ → Table W
arc_table o a c i k =
    sum o a.arcs (λ e. cond (a.letter e == c && a.from e == i && a.to e == k) (a.weight e) o.nil)

abbrev pub silent_closure : {W : Type 0} → Ops W → Automaton W → Table W
silent_closure o a = closed o a.states (arc_table o a 0)

-- the chart without its silent arcs, where e is their closed table
abbrev pub cleared_by : {W : Type 0} → Ops W → Automaton W → Table W → Machine W
cleared_by o a e = record {
  states = a.states;
  letters = a.letters;
  start = λ i. cond (a.start i) o.unit o.nil;
  final = λ i. sum o a.states (λ j. cond (a.final j) (e i j) o.nil);
  block = λ c i k. sum o a.states (λ j. o.times (e i j) (arc_table o a c j k));
}

abbrev pub cleared : {W : Type 0} → Ops W → Automaton W → Machine W
cleared o a = cleared_by o a (silent_closure o a)

-- the pair p, q has the number p * d2 + q
abbrev pub crossed : {W : Type 0} → Ops W → Machine W → Machine W → Machine W
crossed o x y = record {
  states = x.states * y.states;
  letters = x.letters;
  start = λ i. o.times (x.start (i / y.states)) (y.start (i % y.states));
  final = λ i. o.times (x.final (i / y.states)) (y.final (i % y.states));
  block = λ c i k. o.times (x.block c (i / y.states) (k / y.states)) (y.block c (i % y.states) (k % y.states));
}

-- the row after the letters w: start times the block of each letter in turn (w has its last letter first)
abbrev pub row : {W : Type 0} → Ops W → Machine W → List ℕ → ℕ → W
row o x [] k = x.start k
row o x (c ∷ w) k = sum o x.states (λ i. o.times (row o x w i) (x.block c i k))

-- the weight of the letters whose reverse is w
abbrev pub told : {W : Type 0} → Ops W → Machine W → List ℕ → W
told o x w = sum o x.states (λ i. o.times (row o x w i) (x.final i))

-- two machines that agree on their states and, for the letters of the first, on every weight
pub record Alike {W : Type 0} (x y : Machine W) : Type 0 where
  pub states : x.states ≡ y.states
  pub start : (i : ℕ) → i < x.states → x.start i ≡ y.start i
  pub final : (i : ℕ) → i < x.states → x.final i ≡ y.final i
  pub block : (c i k : ℕ) → 1 ≤ c → c ≤ x.letters → i < x.states → k < x.states → x.block c i k ≡ y.block c i k
