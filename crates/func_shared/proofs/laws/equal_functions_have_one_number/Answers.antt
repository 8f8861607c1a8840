use Rattle.func_core.proofs.Unique.{one_tree}
use Rattle.func_shared.specs.Shares.{shared_tree}
use Rattle.func_shared.proofs.Sharing.{standing_number}
use Rattle.func_shared.proofs.laws.equal_functions_have_one_number.Goals as goal

pub returns : goal.returns
returns c functions m n left right same =
    functions.one m n (standing_number functions m left) (standing_number functions n right)
    (one_tree 0 (shared_tree functions m) (shared_tree functions n) left.1 right.1 same)
