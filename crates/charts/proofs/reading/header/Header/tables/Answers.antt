use Rattle.std.proofs.Common.{◌-◌, ◌*◌, ◌∙◌, arith}
use Rattle.charts.proofs.Tabled.{part_is, chunked_part, tables_inside}
use Rattle.charts.proofs.reading.header.Header.tables.Goals as goal

pub returns : goal.returns
returns c =
    let rest = c.args.rest.now in
    let self = c.args.self in
    let placed = tables_inside self c.requires.tables in
    record {
      marks = part_is rest (c.from-marks.result - 12) _ (self.marks - 12) _ (omega arith) c.from-2.ensures;
      rows = c.as_chunks.ensures.front
          ∙ chunked_part rest (c.from-rows.result - 12) (12 * c.from.result) (self.rows - 12) self.arcs (omega arith) (omega arith) (omega arith);
    }
