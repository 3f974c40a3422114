use Rattle.std.proofs.Common.{length}
use Rattle.conformance.proofs.clearing.+told.Given as goal

abbrev pub decreases-told : goal.decreases-told
decreases-told g l = length l.log.now
