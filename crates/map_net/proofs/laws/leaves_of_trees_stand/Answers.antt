use Rattle.circuit_laws.proofs.Ranks.{acyclic_rank}
use Rattle.map_net.proofs.Leaves.{leaf_stands}
use Rattle.map_net.proofs.laws.leaves_of_trees_stand.Goals as goal

pub returns : goal.returns
returns c circuit tree acyclic = leaf_stands circuit tree (acyclic_rank circuit.tables acyclic)
