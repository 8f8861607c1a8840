use Rattle.subject_tree.proofs.Values.{complement-value, product-value, sum-value}
use Rattle.subject_tree.proofs.laws.trees_have_values.Goals as goal

pub returns : goal.returns
returns c = record { complement = complement-value; product = product-value; sum = sum-value }
