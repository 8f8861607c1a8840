use Rattle.circuit_laws.proofs.Ranks.{acyclic_rank}
use Rattle.subject_tree.proofs.Growing.{trees_only}
use Rattle.subject_tree.proofs.laws.forest_trees_are_the_only_ones.Goals as goal

pub returns : goal.returns
returns c circuit first second acyclic = trees_only circuit first second (acyclic_rank circuit.tables acyclic)
