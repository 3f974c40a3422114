use Rattle.std.proofs.Common.{refl, arith}
use lib.Bits.{bit_or}
use Rattle.weights.specs.Parts.{all_parts}
use Rattle.weights.proofs.Meanings.{op_capped}
use Rattle.weights.proofs.parts.PartsWeight.times.Goals as goal

pub returns : goal.returns
returns c = op_capped all_parts bit_or c.args.self.0 c.args.other.0 (omega arith) (omega arith) refl
