use Rattle.std.proofs.Common.{◌∙◌, ap}
use Rattle.circuit_model.specs.Names.{all_different}
use Rattle.circuit_laws.proofs.Names.{different_none}
use Rattle.subject_tree.proofs.leaves.Leaves.new.Goals as goal

pub invariant_of-result : goal.invariant_of-result
invariant_of-result c = ap all_different c.new.ensures.empty ∙ different_none
