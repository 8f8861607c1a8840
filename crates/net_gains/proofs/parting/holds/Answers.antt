use Rattle.std.proofs.Common.{◌∙◌}
use Rattle.net_gains.proofs.InSets.{held}
use Rattle.net_gains.proofs.parting.holds.Goals as goal

pub returns : goal.returns
returns c = c.contains.ensures ∙ held c.args.cube.now c.args.set.now.keys
