-- Two totals of counts: what a pair of counts means, and the weight of an arc.
use Rattle.std.specs.Prelude.{ℕ, cond, ◌==◌}
use Rattle.weights.specs.Semiring.{Ops}
use Rattle.weights.specs.Capped.{Upto, capped}
use Rattle.weights.specs.Count.{most_counted, count_meaning, count_ops}
use Rattle.conformance.specs.Dual.{Totals, dual}
use Rattle.conformance.specs.declared.two_totals.TwoTotals.{TwoTotals}

abbrev pub two_meaning : TwoTotals → Totals (Upto most_counted)
two_meaning t = record { plain = count_meaning t.plain; marked = count_meaning t.marked }

abbrev pub two_ops : Ops (Totals (Upto most_counted))
two_ops = dual count_ops

-- an arc is one way, and it is marked where it wants a part
abbrev pub two_weighs : (minutes grade parts : ℕ) → Totals (Upto most_counted)
two_weighs minutes grade parts = record {
  plain = capped most_counted (cond (parts == 0) 1 0);
  marked = capped most_counted (cond (parts == 0) 0 1);
}
