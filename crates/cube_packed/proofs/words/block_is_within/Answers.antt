use Rattle.std.proofs.Common.{take}
use Rattle.cube_packed.proofs.PlaneLanes.{folded_within}
use Rattle.cube_packed.proofs.words.block_is_within.Goals as goal

pub returns : goal.returns
returns c = folded_within 0 (take 4 c.args.words.now) (take 4 c.args.others.now)
