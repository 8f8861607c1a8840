use Rattle.alg_kernel.proofs.Spots.{spot}
use Rattle.alg_kernel.proofs.search.find_kernel.Goals as goal

pub returns : goal.returns
returns c = spot c.args.seen.now c.args.kernel.now c.binary_search.result c.requires c.binary_search.ensures.bound c.binary_search.ensures.position
