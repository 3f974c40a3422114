use Rattle.std.specs.Fmt.{HasWritten, IsPlainFormatter}
use Rattle.reports.specs.Texts.{state_line, lines}
use Rattle.reports.proofs.tables.write_states.Given as goal

-- the lines of the states so far are written
abbrev pub invariant-loop-state : goal.invariant-loop-state
invariant-loop-state g l = IsPlainFormatter l.initial.f → HasWritten g.W.Write.write_str_gives l.initial.f (lines (state_line l.chart) l.state) l.f
