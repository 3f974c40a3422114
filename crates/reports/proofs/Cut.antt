-- Of a file that is too long, what lies past its front changes nothing.
use Rattle.std.proofs.Common.{◌≡◌, ℕ, ◌<◌, ◌≤◌, List, ◌++◌, length, IfOk, string_bytes, Result, String, sym, ap, ◌∙◌, arith, length-append}
use Rattle.std.proofs.lemmas.Result.{IfOk-weaker}
use Rattle.charts.proofs.Decoded.{decoded_long}
use Rattle.reports.specs.Texts.{outcome, report}

report_cut : (bs more : List ℕ) → 8193 ≤ length bs → report bs ≡ report (bs ++ more)
report_cut bs more h =
    let longer : 8192 < length (bs ++ more) = omega (arith, length-append bs more) in
    ap outcome (decoded_long bs (omega arith) ∙ sym (decoded_long (bs ++ more) longer))

-- so the report of the front is that of the whole
pub front_is_enough : {Z E : Type 0} (bs : List ℕ) (r : Result (String Z) E) → IfOk r (λ s. string_bytes s ≡ report bs)
    → 8193 ≤ length bs → (more : List ℕ) → IfOk r (λ s. string_bytes s ≡ report (bs ++ more))
front_is_enough bs r told long more =
    IfOk-weaker r (λ s. string_bytes s ≡ report bs) _ (λ s e. e ∙ report_cut bs more long) told
