use Rattle.circuit_laws.proofs.Ranks.{acyclic_rank}
use Rattle.subject_tree.proofs.Growing.{trees_worth}
use Rattle.subject_tree.proofs.laws.forest_trees_have_values.Goals as goal

pub returns : goal.returns
returns c circuit tree value acyclic = trees_worth circuit tree value (acyclic_rank circuit.tables acyclic)
