-- The first element that fails a test.
use Rattle.std.proofs.Common.{◌≡◌, ℕ, zero, suc, ◌+◌, ◌<◌, ◌≤◌, Bool, true, false, cond, ◌&&◌, List, [], ◌∷◌, length, get_or, drop, is_some, Some, None, Option, sym, refl, ap, ◌∙◌, arith}
use Rattle.std.specs.Option.{option_map}
use Rattle.std.proofs.lemmas.List.{at_drop_more, at_drop_all}
use Rattle.std.proofs.lemmas.Bool.{cond-true, cond-false, and_parts}
use Rattle.charts.specs.Held.{all}
use Rattle.charts.specs.Format.{first_failing}
use Rattle.charts.specs.declared.refusals.Refusal.{Refusal}

-- where the first does not fail and none after it does, all pass
pass_more : (b a : Bool) (rest : Option Refusal) (e : Refusal) → (rest ≡ None → a ≡ true) → cond b rest (Some e) ≡ None
    → (b && a) ≡ true
pass_more true a rest e others none = others none
pass_more false a rest e others none = sym (ap is_some none)

module _ {X : Type 0} (test : X → Bool) (refusal : ℕ → Refusal) where
  -- an element that passes is left behind
  pub failing_passed : (xs : List X) (i : ℕ) (d : X) → i < length xs → test (get_or xs i d) ≡ true
      → first_failing test refusal i (drop i xs) ≡ first_failing test refusal (i + 1) (drop (i + 1) xs)
  failing_passed xs i d h passes =
      at_drop_more (first_failing test refusal i) xs i d h ∙ cond-true (test (get_or xs i d)) _ _ passes

  -- one that fails is the first, where all before it pass
  pub failing_found : (xs : List X) (i : ℕ) (d : X) → i < length xs → test (get_or xs i d) ≡ false
      → first_failing test refusal i (drop i xs) ≡ Some (refusal i)
  failing_found xs i d h fails =
      at_drop_more (first_failing test refusal i) xs i d h ∙ cond-false (test (get_or xs i d)) _ _ fails

  -- and at the end there is none
  pub failing_none : (xs : List X) (i : ℕ) → length xs ≤ i → first_failing test refusal i (drop i xs) ≡ None
  failing_none xs i h = at_drop_all (first_failing test refusal i) xs i h

  -- where none fails, all pass
  pub all_pass : (n : ℕ) (xs : List X) → first_failing test refusal n xs ≡ None → all test xs ≡ true
  all_pass n [] e = refl
  all_pass n (x ∷ xs) e = pass_more (test x) _ _ _ (all_pass (n + 1) xs) e

-- an element of a list whose elements all pass does
pub all_at : {X : Type 0} (test : X → Bool) (xs : List X) (i : ℕ) (d : X) → i < length xs → all test xs ≡ true
    → test (get_or xs i d) ≡ true
all_at test [] i d h e = absurd (omega arith)
all_at test (x ∷ xs) zero d h e = (and_parts (test x) (all test xs) e).0
all_at test (x ∷ xs) (suc i) d h e = all_at test xs i d (omega arith) (and_parts (test x) (all test xs) e).1

-- a value is found exactly where the test says so
pub some_is : {X Y : Type 0} (f : X → Y) (o : Option X) (b : Bool) (y : Y) → option_map f o ≡ cond b (Some y) None → is_some o ≡ b
some_is f None true y e = ap is_some e
some_is f None false y e = refl
some_is f (Some x) true y e = refl
some_is f (Some x) false y e = ap is_some e
