use Rattle.std.proofs.Common.{arith}
use Rattle.std.proofs.lemmas.Bool.Decides.{nat_tests}
use Rattle.charts.proofs.Marked.{second_bit}
use Rattle.charts.proofs.reading.Chart.is_end.Goals as goal

pub returns : goal.returns
returns c = let m = second_bit c.mark.result in grind (arith, nat_tests)
