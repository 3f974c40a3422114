use Rattle.std.proofs.Common.{arith}
use Rattle.weights.proofs.Hexadecimal.{hex_eight}
use Rattle.weights.proofs.arcs.printing.ArcRecordDisplay.fmt.Goals as goal

pub returns-clause-writes : goal.returns-clause-writes
returns-clause-writes g c = rw (c.laid_out.ensures, c.in_radix.ensures, hex_eight c.args.self.now.parts (omega (arith, c.args.self.now.ranges))) at c.write.ensures.writes
