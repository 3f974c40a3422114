use Rattle.std.proofs.Common.{leb, ◌∙◌, ap₂, arith}
use Rattle.charts.proofs.Tabled.{tables_fit_is}
use Rattle.charts.proofs.reading.header.Header.tables_fit.Goals as goal

pub returns-then-rows_end-total : goal.returns-then-rows_end-total
returns-then-rows_end-total c =
    ap₂ leb (omega arith) (omega arith) ∙ tables_fit_is c.args.self (omega arith) (omega arith) (omega arith) (omega arith)
