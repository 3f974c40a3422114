use Rattle.std.proofs.Common.{sym}
use Rattle.charts.proofs.Decoded.{fits_found}
use Rattle.charts.proofs.reading.lent.LentChart.read.Goals as goal

pub invariant_of-result : goal.invariant_of-result
invariant_of-result c =
    fits_found c.in_ok-tables.ensures (sym c.in_ok-check_states.ensures) (sym c.in_ok-check_arcs.ensures)

pub returns-clause-fits : goal.returns-clause-fits
returns-clause-fits c = invariant_of-result c
