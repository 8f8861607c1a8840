use Rattle.std.proofs.Common.{ap, inl, inr}
use Rattle.func_core.specs.PlainTrees.{shape}
use Rattle.func_core.proofs.Sizes.{Adds-inner, Adds-leaf, inner-Zero, inner-One}
use Rattle.func_core.proofs.diagram.+see_inner.Goals as goal

pub returns-in_ok-all-in-Branch : goal.returns-in_ok-all-in-Branch
returns-in_ok-all-in-Branch t c =
    Adds-inner _ _ _ _ _ _ _ _ _ _ (ap shape c.in-Branch.is) (ap shape c.deref.ensures)
    (ap shape c.deref-in-Branch.ensures) c.in_ok-with_tree-in-Branch.ensures c.in_ok-with_low-in-Branch.ensures
    c.in_ok-all-in-Branch.ensures

pub returns-in-Zero : goal.returns-in-Zero
returns-in-Zero t c =
    elim c.in-Zero.is [
      | inl zero ↦ Adds-leaf _ _ (inner-Zero _ (ap shape zero))
      | inr one ↦ Adds-leaf _ _ (inner-One _ (ap shape one))
    ]
