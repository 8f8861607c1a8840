use Rattle.std.proofs.Common.{ap, sym, ◌∙◌}
use Rattle.func_core.specs.PlainTrees.{shape}
use Rattle.func_core.proofs.Steps.{splits-same, reduced-same, splits-node, reduced-node, node-same}
use Rattle.func_core.proofs.diagram.join_halves.Goals as goal

pub returns-then-is_same-clause-computes : goal.returns-then-is_same-clause-computes
returns-then-is_same-clause-computes c =
    splits-same c.args.place (shape c.args.lo) (shape c.args.hi) (sym c.is_same.ensures ∙ c.if-is_same.true)

pub returns-then-is_same-clause-reduced : goal.returns-then-is_same-clause-reduced
returns-then-is_same-clause-reduced c = reduced-same c.args.place (shape c.args.lo) (shape c.args.hi)

pub returns-clause-computes : goal.returns-clause-computes
returns-clause-computes c =
    splits-node c.args.place (shape c.args.lo) (shape c.args.hi) _
    (node-same _ _ _ _ _ (ap shape c.in_ok-new.ensures.ok) (ap shape c.in_ok-new-2.ensures.ok))

pub returns-clause-reduced : goal.returns-clause-reduced
returns-clause-reduced c =
    reduced-node c.args.place (shape c.args.lo) (shape c.args.hi) _
    (node-same _ _ _ _ _ (ap shape c.in_ok-new.ensures.ok) (ap shape c.in_ok-new-2.ensures.ok))
    (sym c.is_same.ensures ∙ c.if-is_same.false)
