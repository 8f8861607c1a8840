use Rattle.std.proofs.Common.{◌≡◌, map, drop, Bor}
use Rattle.std.specs.Set.{is_member}
use Rattle.func_core.specs.Sizes.{tree_eq}
use Rattle.func_core.specs.PlainTrees.{shape}
use Rattle.func_core.specs.declared.diagram.Diagram.{Diagram}
use Rattle.func_core.proofs.diagram.is_among.Given as goal

-- whether the tree is among those left is whether it is among all
abbrev pub invariant-loop-other : goal.invariant-loop-other
invariant-loop-other l =
    is_member tree_eq (map (λ (d : Bor Diagram). shape d.now) (drop l.other-index l.others)) (shape l.tree)
    ≡ is_member tree_eq (map (λ (d : Bor Diagram). shape d.now) l.others) (shape l.tree)
