use Rattle.std.proofs.Common.{◌≡◌}
use Rattle.subject_tree.specs.Arenas.{tree_at}
use Rattle.subject_tree.specs.Order.{tree_cmp, place_cmp}
use Rattle.subject_tree.proofs.arena.Arena.compare.Given as goal

abbrev pub invariant-loop-left : goal.invariant-loop-left
invariant-loop-left l =
    tree_cmp (place_cmp l.leaves) (tree_at l.self l.left) (tree_at l.self l.right) ≡ tree_cmp (place_cmp l.leaves) (tree_at l.self l.fn.left) (tree_at l.self l.fn.right)

abbrev pub decreases-loop-left : goal.decreases-loop-left
decreases-loop-left l = l.left
