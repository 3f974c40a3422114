use Rattle.std.proofs.Common.{◌≡◌, map, length, drop}
use Rattle.charts.specs.Views.{row_of, arc_row_fits}
use Rattle.charts.specs.Format.{first_failing}
use Rattle.charts.specs.declared.refusals.Refusal.TheVariants.{ArcRow}
use Rattle.charts.proofs.reading.tables.Tables.check_arcs.Given as goal

-- what is left says what the whole says
abbrev pub invariant-loop-arc : goal.invariant-loop-arc
invariant-loop-arc l =
    first_failing (arc_row_fits (length l.self.marks.now) l.self.letters) ArcRow l.arc (drop l.arc (map row_of l.self.rows.now))
    ≡ first_failing (arc_row_fits (length l.self.marks.now) l.self.letters) ArcRow 0 (map row_of l.self.rows.now)
