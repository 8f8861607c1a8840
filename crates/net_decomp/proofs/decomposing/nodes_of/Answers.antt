use Rattle.std.proofs.Common.{◌+◌, ap}
use Rattle.net_core.specs.Reads.{sizes_of}
use Rattle.net_core.specs.declared.network.Sizes.{Sizes}
use Rattle.net_decomp.proofs.decomposing.nodes_of.Goals as goal

pub returns : goal.returns
unfolding sizes_of
returns g c = ap (λ (s : Sizes). s.tables + s.latches + s.dont_cares) c.sizes-sizes.ensures
