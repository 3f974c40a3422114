use Rattle.std.proofs.Common.{ap, ◌∙◌}
use Rattle.std.proofs.lemmas.Result.{IfOk-weaker}
use Rattle.reports.specs.Texts.{outcome}
use Rattle.reports.proofs.Cut.{front_is_enough}
use Rattle.reports.proofs.tables.chart_report.Goals as goal

pub returns-in-Ok : goal.returns-in-Ok
returns-in-Ok c =
    let told = IfOk-weaker c.chart_table.result _ _ (λ s e. e ∙ ap outcome c.in-Ok.ensures.answers) c.chart_table.ensures.text in
    record { text = told; enough = front_is_enough _ _ told }

pub returns-in-Err : goal.returns-in-Err
returns-in-Err c =
    let told = IfOk-weaker c.refusal_line.result _ _ (λ s e. e ∙ ap outcome c.in-Err.ensures.answers) c.refusal_line.ensures in
    record { text = told; enough = front_is_enough _ _ told }
