use Rattle.std.proofs.Common.{ap, ◌∙◌, ap₂}
use Rattle.weights.specs.Count.{count_meaning, count_ops}
use Rattle.conformance.specs.DualLaws.{same_totals}
use Rattle.conformance.proofs.two_totals.TwoTotalsWeight.star.Goals as goal

pub returns : goal.returns
returns c =
    let star = c.star-plain.ensures in
    let after = c.times-after.ensures ∙ ap (count_ops.times (count_meaning c.args.self.marked)) star in
    same_totals star (c.times-marked.ensures ∙ ap₂ count_ops.times star after)
