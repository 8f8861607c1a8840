use Rattle.func_core.proofs.Meanings.{same-tree}
use Rattle.func_core.proofs.laws.equal_functions_have_one_tree.Goals as goal

pub returns : goal.returns
returns c = same-tree
