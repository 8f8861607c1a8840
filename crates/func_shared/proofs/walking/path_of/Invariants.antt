use Rattle.std.proofs.Common.{◌≡◌, ◌++◌}
use Rattle.func_core.specs.Points.{path}
use Rattle.func_shared.specs.Vertices.{tree_at, IsNumber}
use Rattle.func_shared.proofs.walking.path_of.Given as goal

-- what is collected, followed by the path of the tree at which the walk is
abbrev pub invariant-loop-vertex : goal.invariant-loop-vertex
invariant-loop-vertex l =
    IsNumber l.table l.at × (l.literals.items ++ path (tree_at l.table l.at) ≡ path
    (tree_at l.table l.number))

abbrev pub decreases-loop-vertex : goal.decreases-loop-vertex
decreases-loop-vertex l = l.at
