use Rattle.std.proofs.Common.{◌≡◌, take, sum_by}
use Rattle.netlist.specs.declared.mapped.TreeFigure.{TreeFigure}
use Rattle.sis_session.proofs.mapping.total_area.Given as goal

abbrev pub invariant-loop-tree : goal.invariant-loop-tree
invariant-loop-tree l =
    l.total ≡ sum_by (λ (tree : TreeFigure). tree.figure) (take l.tree-index l.trees)
