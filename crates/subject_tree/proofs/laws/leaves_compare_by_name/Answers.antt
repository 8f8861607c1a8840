use Rattle.subject_tree.proofs.Comparing.{trees_by_name}
use Rattle.subject_tree.proofs.laws.leaves_compare_by_name.Goals as goal

pub returns : goal.returns
returns c = trees_by_name
