use Rattle.std.proofs.Common.{sym}
use Rattle.charts.proofs.Decoded.{found, few}
use Rattle.charts.proofs.reading.tables.Tables.find.Goals as goal

pub invariant_of-result : goal.invariant_of-result
invariant_of-result c =
    let split = c.in_ok-header.ensures in
    record {
      few = few (found c.in_ok-header.header c.in_ok-header.rest.now split.0 split.1 (sym c.if-not-total_fits.ensures) (sym c.if-not-within_limits.ensures)
          (sym c.if-not-tables_fit.ensures) split.2 c.tables.ensures.marks c.tables.ensures.rows);
    }

-- the first four questions are passed, and the tables lie where the header says
pub returns : goal.returns
returns c =
    let split = c.in_ok-header.ensures in
    found c.in_ok-header.header c.in_ok-header.rest.now split.0 split.1 (sym c.if-not-total_fits.ensures) (sym c.if-not-within_limits.ensures)
    (sym c.if-not-tables_fit.ensures) split.2 c.tables.ensures.marks c.tables.ensures.rows
