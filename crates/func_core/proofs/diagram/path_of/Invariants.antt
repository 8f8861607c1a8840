use Rattle.std.proofs.Common.{◌≡◌, ◌++◌}
use Rattle.func_core.specs.Points.{path}
use Rattle.func_core.specs.PlainTrees.{shape}
use Rattle.func_core.proofs.diagram.path_of.Given as goal

-- what is collected, followed by the path of the tree at which the walk is
abbrev pub invariant-loop-at : goal.invariant-loop-at
invariant-loop-at l = l.literals.items ++ path (shape l.at) ≡ path (shape l.tree)
