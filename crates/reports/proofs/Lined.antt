-- Texts that are written line by line.
use Rattle.std.proofs.Common.{◌≡◌, ℕ, ◌+◌, List, ◌++◌, ap, ◌∙◌, add-one}
use Rattle.std.proofs.Output.{has_written_append, has_written_of_eq}
use Rattle.std.specs.Fmt.{HasWritten}
use Rattle.std.specs.declared.fmt.Formatter.{Formatter}
use Rattle.reports.specs.Texts.{lines}

-- one line more is written
pub line_written : {W : Type 0} {took : W → List ℕ → W → Type 0} {f g h : Formatter W} (line : ℕ → List ℕ) (n : ℕ) {bs : List ℕ}
    → HasWritten took f (lines line n) g → HasWritten took g bs h → bs ≡ line n → HasWritten took f (lines line (n + 1)) h
line_written {took = took} line n before more e =
    has_written_of_eq took _ _ _ _ (ap (λ t. lines line n ++ t) e ∙ rw (add-one n)) (has_written_append took _ _ _ _ _ before more)
