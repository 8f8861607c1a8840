use Rattle.std.proofs.Common.{◌*◌}
use Rattle.cube_packed.proofs.PlaneLoops.{IsJoinedTo}
use Rattle.cube_packed.proofs.words.join.Given as goal

abbrev pub invariant-loop-block : goal.invariant-loop-block
invariant-loop-block l = IsJoinedTo l.fn.words l.others l.words (4 * l.block)

abbrev pub invariant-loop-place : goal.invariant-loop-place
invariant-loop-place l = IsJoinedTo l.fn.words l.others l.words l.place
