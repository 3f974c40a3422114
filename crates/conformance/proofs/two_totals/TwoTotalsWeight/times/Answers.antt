use Rattle.std.proofs.Common.{◌∙◌, ap₂}
use Rattle.weights.specs.Count.{count_ops}
use Rattle.conformance.specs.DualLaws.{same_totals}
use Rattle.conformance.proofs.two_totals.TwoTotalsWeight.times.Goals as goal

pub returns : goal.returns
returns c =
    same_totals
    c.times.ensures
    (c.plus.ensures ∙ ap₂ count_ops.plus c.times-second.ensures c.times-first.ensures)
