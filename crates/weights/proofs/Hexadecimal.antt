-- A number below 2 ^ 32 as eight hexadecimal digits.
use Rattle.std.proofs.Common.{◌≡◌, ℕ, zero, suc, ◌+◌, ◌-◌, ◌/◌, ◌%◌, ◌^◌, ◌<◌, ◌≤◌, false, List, [], ◌∷◌, ◌++◌, length, replicate, ap, ◌∙◌, append_assoc, append-nil, add-one, arith, refl, sym, inl, inr, ◌==◌}
use Rattle.std.proofs.lemmas.Bool.{cases_lt, ne_eqb}
use Rattle.std.proofs.lemmas.Bool.Decides.{nat_tests}
use Rattle.std.proofs.lemmas.List.{replicate-append-replicate}
use Rattle.std.specs.Fmt.{digit_glyph, digits, digits_onto, padded_integral, char_count, format_spec}
use Rattle.weights.specs.Texts.{hex_digits}

-- one digit more
pub hex_more : (k n : ℕ) (before : List ℕ) → 0 < k
    → (before ++ hex_digits (k - 1) (n / 16)) ++ (digit_glyph false (n % 16) ∷ []) ≡ before ++ hex_digits k n
hex_more zero n before h = absurd (omega arith)
hex_more (suc k) n before h =
    let less : suc k - 1 ≡ k = omega arith in
    append_assoc before (hex_digits (suc k - 1) (n / 16)) _ ∙ rw less

-- a digit's character is one of ASCII's
pub glyph_ascii : (n : ℕ) {c : ℕ} → c ≡ digit_glyph false n → n < 16 → c < 128
glyph_ascii n e h = grind (arith, nat_tests)

-- so many times the digit 0
abbrev zeros : ℕ → List ℕ
zeros k = replicate k 48

-- the digits of 0
hex_zero : (k : ℕ) → hex_digits k 0 ≡ zeros k
hex_zero zero = refl
hex_zero (suc k) = ap (λ t. t ++ zeros 1) (hex_zero k) ∙ replicate-append-replicate k 1 48 ∙ rw (add-one k)

-- digits written before others, with zeros before them up to k digits
widened : (k i n : ℕ) (acc : List ℕ) → n < 16 ^ suc k → k ≤ i
    → zeros (suc k + length acc - length (digits_onto (suc i) 16 false n acc)) ++ digits_onto (suc i) 16 false n acc
    ≡ hex_digits (suc k) n ++ acc
widened zero i n acc h room =
    let last : n / 16 ≡ 0 = omega arith in
    let none : 1 + length acc - suc (length acc) ≡ 0 = omega arith in
    rw (last, none)
widened (suc k) zero n acc h room = absurd (omega arith)
widened (suc k) (suc i) n acc h room =
    let others = digit_glyph false (n % 16) ∷ acc in
    let more = append_assoc (hex_digits (suc k) (n / 16)) (digit_glyph false (n % 16) ∷ []) acc in
    elim (cases_lt n 16) [
      | inl small ↦
          let last : n / 16 ≡ 0 = omega arith in
          let missing : suc (suc k) + length acc - suc (length acc) ≡ suc k = omega arith in
          rw (last, missing) (ap (λ t. t ++ others) (sym (hex_zero (suc k))) ∙ sym (rw last at more))
      | inr large ↦
          let next : (n / 16 == 0) ≡ false = ne_eqb (n / 16) 0 (λ e. omega arith) in
          let same : suc k + suc (length acc) ≡ suc (suc k) + length acc = omega arith in
          rw next (rw same at (widened k i (n / 16) others (omega arith) (omega arith)) ∙ sym more)
    ]

-- what `{:08x}` writes
pub hex_eight : (n : ℕ) → n < 2 ^ 32
    → padded_integral (format_spec 32 0 4 8 (2 ^ 64 - 1)) false [] (digits 16 false n) ≡ hex_digits 8 n
unfolding padded_integral char_count digits
hex_eight n small =
    let d = digits_onto 64 16 false n [] in
    let width : 8 - length d - 0 - 0 ≡ 8 - length d = omega arith in
    rw (width, append-nil) (widened 7 63 n [] (omega arith) (omega arith))
