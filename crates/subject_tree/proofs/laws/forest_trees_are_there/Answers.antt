use Rattle.circuit_laws.proofs.Ranks.{acyclic_rank}
use Rattle.subject_tree.proofs.Existing.{trees_there}
use Rattle.subject_tree.proofs.laws.forest_trees_are_there.Goals as goal

pub returns : goal.returns
returns c circuit acyclic = trees_there circuit (acyclic_rank circuit.tables acyclic)
