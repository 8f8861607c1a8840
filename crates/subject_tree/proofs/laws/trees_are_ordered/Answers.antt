use Rattle.subject_tree.proofs.Comparing.{place_total, place_exact, tree_total, tree_exact}
use Rattle.subject_tree.specs.Order.{place_cmp}
use Rattle.subject_tree.proofs.laws.trees_are_ordered.Goals as goal

pub returns-clause-total : goal.returns-clause-total
returns-clause-total c names = tree_total (place_cmp names) (place_total names) (place_exact names)

pub returns-clause-exact : goal.returns-clause-exact
returns-clause-exact c names = tree_exact (place_cmp names) (place_total names) (place_exact names)
