-- A chart as a weighted automaton, its paths, and the settled sum of a list of letters.
use Rattle.std.specs.Prelude.{◌≡◌, ℕ, suc, ◌≤◌, Bool, true, false, cond, ◌&&◌, List, [], ◌∷◌, length, ◌==◌, nat_lt}
use Rattle.weights.specs.Semiring.{Ops, Better}
use Rattle.charts.specs.Sums.{sum, sum_lists}
use Rattle.charts.specs.Views.{View, arc_row, starts, ends}

-- arc e goes from state (from e) to state (to e), spells (letter e), where 0 is silent, and weighs (weight e)
pub record Automaton (W : Type 0) : Type 0 where
  pub states : ℕ
  pub letters : ℕ
  pub arcs : ℕ
  pub start : ℕ → Bool
  pub final : ℕ → Bool
  pub from : ℕ → ℕ
  pub to : ℕ → ℕ
  pub letter : ℕ → ℕ
  pub weight : ℕ → W

-- the automaton of a chart's view, for a kind that weighs an arc by its minutes, grade and parts
abbrev pub automaton : {W : Type 0} → ((minutes grade parts : ℕ) → W) → View → Automaton W
automaton weighs v = record {
  states = v.states;
  letters = v.letters;
  arcs = length v.arc_rows;
  start = starts v;
  final = ends v;
  from = λ e. (arc_row v e).from;
  to = λ e. (arc_row v e).to;
  letter = λ e. (arc_row v e).letter;
  weight = λ e. weighs (arc_row v e).minutes (arc_row v e).grade (arc_row v e).parts;
}

-- every arc stands between states, and its letter is one of the letters or silent
pub record Sound {W : Type 0} (a : Automaton W) : Type 0 where
  pub from_below : (e : ℕ) → suc e ≤ a.arcs → suc (a.from e) ≤ a.states
  pub to_below : (e : ℕ) → suc e ≤ a.arcs → suc (a.to e) ≤ a.states
  pub letter_within : (e : ℕ) → suc e ≤ a.arcs → a.letter e ≤ a.letters

-- each arc leaves the state that the one before entered, and the last enters an end state
abbrev pub leads : {W : Type 0} → Automaton W → ℕ → List ℕ → Bool
leads a q [] = a.final q
leads a q (e ∷ es) = nat_lt e a.arcs && a.from e == q && leads a (a.to e) es

-- a path is a start state to begin in and the arcs taken
abbrev pub is_path : {W : Type 0} → Automaton W → ℕ → List ℕ → Bool
is_path a q es = nat_lt q a.states && a.start q && leads a q es

-- equality of two lists of numbers
abbrev pub same_list : List ℕ → List ℕ → Bool
same_list [] [] = true
same_list [] (y ∷ ys) = false
same_list (x ∷ xs) [] = false
same_list (x ∷ xs) (y ∷ ys) = x == y && same_list xs ys

-- no letter of the list is the silent one
abbrev pub Spoken : List ℕ → Type 0
Spoken [] = Unit
Spoken (c ∷ w) = (1 ≤ c) × Spoken w

-- every letter of the list is one of n letters, from 1 on
abbrev pub Within : ℕ → List ℕ → Type 0
Within n [] = Unit
Within n (c ∷ w) = (1 ≤ c) × (c ≤ n) × Within n w

-- the letters of a path, without the silent ones
abbrev pub spelled : {W : Type 0} → Automaton W → List ℕ → List ℕ
spelled a [] = []
spelled a (e ∷ es) = cond (a.letter e == 0) (spelled a es) (a.letter e ∷ spelled a es)

-- the chain of the arcs in order; one where there is none
abbrev pub path_weight : {W : Type 0} → Ops W → Automaton W → List ℕ → W
path_weight o a [] = o.unit
path_weight o a (e ∷ es) = o.times (a.weight e) (path_weight o a es)

-- are the arcs, begun in state q, a path that spells w?
abbrev pub explains : {W : Type 0} → Automaton W → List ℕ → ℕ → List ℕ → Bool
explains a w q es = is_path a q es && same_list (spelled a es) w

-- the join of the weights of all paths of exactly r arcs that spell w
abbrev pub sum_exactly : {W : Type 0} → Ops W → Automaton W → List ℕ → ℕ → W
sum_exactly o a w r =
    sum o a.states (λ q. sum_lists o a.arcs r (λ es. cond (explains a w q es) (path_weight o a es) o.nil))

-- the join of the weights of all paths of at most m arcs that spell w
abbrev pub sum_up_to : {W : Type 0} → Ops W → Automaton W → List ℕ → ℕ → W
sum_up_to o a w m = sum o (suc m) (sum_exactly o a w)

-- s is the settled sum of w: the join is s for every m from some length on
abbrev pub Settled : {W : Type 0} → Ops W → Automaton W → List ℕ → W → Type 0
Settled o a w s = (n : ℕ) × ((m : ℕ) → n ≤ m → sum_up_to o a w m ≡ s)

-- the arcs es, begun in state q, are a path that spells w and weighs s, and no path spelling w weighs better
pub record Best {W : Type 0} (o : Ops W) (a : Automaton W) (w : List ℕ) (q : ℕ) (es : List ℕ) (s : W) : Type 0 where
  pub path : explains a w q es ≡ true
  pub weighs : path_weight o a es ≡ s
  pub best : (p : ℕ) (ds : List ℕ) → explains a w p ds ≡ true → Better o (path_weight o a ds) s → ⊥
