use Rattle.std.proofs.Common.{◌≤◌, arith, rules}
use Rattle.machines.proofs.Parts.{row_room}
use Rattle.machines.proofs.machine.Machine.row.Goals as goal

-- the row ends within the block
pub row_of-requires : goal.row_of-requires
row_of-requires g c =
    let m = c.self.inside in
    let some : 1 ≤ c.args.letter = search rules in
    let within : c.args.letter ≤ m.letters = search rules in
    row_room m.states m.letters c.args.letter c.args.state m.table.now c.block.result.now some within (omega arith) (omega arith)
    (rw (← c.self.view_is) at c.block.ensures.value)
