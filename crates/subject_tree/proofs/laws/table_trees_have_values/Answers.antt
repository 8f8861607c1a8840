use Rattle.subject_tree.proofs.TableValues.{table_tree-value}
use Rattle.subject_tree.proofs.laws.table_trees_have_values.Goals as goal

pub returns : goal.returns
returns c = table_tree-value
