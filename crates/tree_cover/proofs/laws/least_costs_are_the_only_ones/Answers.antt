use Rattle.tree_cover.proofs.Valuing.{least-one, leasts-one}
use Rattle.tree_cover.proofs.laws.least_costs_are_the_only_ones.Goals as goal

pub returns-clause-tree : goal.returns-clause-tree
returns-clause-tree c = least-one

pub returns-clause-trees : goal.returns-clause-trees
returns-clause-trees c = leasts-one
