use Rattle.std.proofs.Common.{◌≡◌, ℕ, Bool, ap, sym, ◌∙◌}
use Rattle.func_core.specs.Trees.{Node}
use Rattle.func_core.specs.Operations.{bits}
use Rattle.func_core.specs.PlainTrees.{shape}
use Rattle.func_core.proofs.Steps.{eval-Zero, eval-One, node-at, made-one, made-reduced-alone}
use Rattle.func_core.proofs.diagram.+with_constant.Goals as goal

pub returns-in-Zero-clause-computes : goal.returns-in-Zero-clause-computes
returns-in-Zero-clause-computes t c point =
    c.leaf.ensures.computes point ∙ c.bit_of.ensures
    ∙ ap (bits c.args.operation c.args.left) (sym (eval-Zero (shape c.args.right.now) point (ap shape c.in-Zero.is)))

pub returns-in-One-clause-computes : goal.returns-in-One-clause-computes
returns-in-One-clause-computes t c point =
    c.leaf-in-One.ensures.computes point ∙ c.bit_of-in-One.ensures
    ∙ ap (bits c.args.operation c.args.left) (sym (eval-One (shape c.args.right.now) point (ap shape c.in-One.is)))

pub returns-in_ok-high-in-Branch-clause-computes : goal.returns-in_ok-high-in-Branch-clause-computes
returns-in_ok-high-in-Branch-clause-computes t c =
    let split : shape c.args.right.now
    ≡ Node c.in-Branch.place (shape c.deref.result.now) (shape c.deref-in-Branch.result.now) =
    node-at _ _ _ _ _ _ (ap shape c.in-Branch.is) (ap shape c.deref.ensures) (ap shape c.deref-in-Branch.ensures) in
    made-one _ (λ (point : ℕ → Bool). bits c.args.operation c.args.left) c.in-Branch.place _ _ _ _ _ split
    c.join_halves.ensures.computes c.in_ok-low-in-Branch.ensures.computes c.in_ok-high-in-Branch.ensures.computes

pub returns-in_ok-high-in-Branch-clause-reduced : goal.returns-in_ok-high-in-Branch-clause-reduced
returns-in_ok-high-in-Branch-clause-reduced t c =
    let split : shape c.args.right.now
    ≡ Node c.in-Branch.place (shape c.deref.result.now) (shape c.deref-in-Branch.result.now) =
    node-at _ _ _ _ _ _ (ap shape c.in-Branch.is) (ap shape c.deref.ensures) (ap shape c.deref-in-Branch.ensures) in
    made-reduced-alone _ c.in-Branch.place _ _ _ _ _ split
    c.join_halves.ensures.reduced c.in_ok-low-in-Branch.ensures.reduced c.in_ok-high-in-Branch.ensures.reduced
