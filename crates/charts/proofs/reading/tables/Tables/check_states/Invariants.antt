use Rattle.std.proofs.Common.{◌≡◌, drop}
use Rattle.charts.specs.Views.{state_row_fits}
use Rattle.charts.specs.Format.{first_failing}
use Rattle.charts.specs.declared.refusals.Refusal.TheVariants.{StateRow}
use Rattle.charts.proofs.reading.tables.Tables.check_states.Given as goal

-- what is left says what the whole says
abbrev pub invariant-loop-state : goal.invariant-loop-state
invariant-loop-state l =
    first_failing state_row_fits StateRow l.state (drop l.state l.self.marks.now) ≡ first_failing state_row_fits StateRow 0 l.self.marks.now
