use Rattle.cube_packed.proofs.PlaneLoops.{one_set, one_cleared}
use Rattle.cube_packed.proofs.words.set_bit.Goals as goal

pub returns-then-bit : goal.returns-then-bit
returns-then-bit c = rw c.if-bit.true (one_set c.args.words.now c.args.column c.requires)

pub returns-else-bit : goal.returns-else-bit
returns-else-bit c = rw c.if-bit.false (one_cleared c.args.words.now c.args.column c.requires)
