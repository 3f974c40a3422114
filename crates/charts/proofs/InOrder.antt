-- Going through a list from its front: what is left after so many elements.
use Rattle.std.proofs.Common.{◌≡◌, ℕ, zero, suc, ◌+◌, ◌<◌, ◌≤◌, List, [], ◌∷◌, ◌++◌, length, get_or, drop, sym, ap, ◌∙◌, add-one, arith, length-drop, length-append}

pub record Reached {X : Type 0} (xs : List X) (n : ℕ) (rest : List X) : Type 0 where
  pub within : n ≤ length xs
  pub left : rest ≡ drop n xs

-- the next element and what it leaves
pub record Passed {X : Type 0} (xs : List X) (n : ℕ) (x : X) (rest : List X) : Type 0 where
  pub below : n < length xs
  pub here : (d : X) → get_or xs n d ≡ x
  pub after : rest ≡ drop (suc n) xs

passes : {X : Type 0} (xs : List X) (n : ℕ) {x : X} {rest : List X} → drop n xs ≡ x ∷ rest → Passed xs n x rest
passes [] zero e = absurd (cc)
passes [] (suc n) e = absurd (cc)
passes (y ∷ ys) zero e = record { below = omega arith; here = λ d. cc; after = cc }
passes (y ∷ ys) (suc n) e =
    let p = passes ys n e in record { below = omega arith; here = p.here; after = p.after }

-- all is left at first
pub reached_none : {X : Type 0} (xs : List X) {rest : List X} → rest ≡ xs → Reached xs 0 rest
reached_none xs e = record { within = omega arith; left = e }

-- an element is taken from what is left
pub passed : {X : Type 0} (xs : List X) (n : ℕ) {x : X} {rest more : List X} → Reached xs n rest → rest ≡ x ∷ more → Passed xs n x more
passed xs n so_far e = passes xs n (sym so_far.left ∙ e)

pub reached_more : {X : Type 0} (xs : List X) (n : ℕ) {x : X} {rest : List X} → Passed xs n x rest → Reached xs (n + 1) rest
reached_more xs n p = let below = p.below in record { within = omega arith; left = p.after ∙ ap (λ k. drop k xs) (sym (add-one n)) }

-- where nothing is left all have been taken
pub reached_end : {X : Type 0} (xs : List X) (n : ℕ) {rest : List X} → Reached xs n rest → rest ≡ [] → n ≡ length xs
reached_end xs n so_far e =
    let within = so_far.within in
    let none = ap length (sym so_far.left ∙ e) in
    omega (arith, length-drop n xs)

-- the number of elements that have been taken, when one more is
pub taken_more : {X : Type 0} (ys : List X) (y : X) → length (ys ++ y ∷ []) ≡ length ys + 1
taken_more ys y = length-append ys (y ∷ [])
