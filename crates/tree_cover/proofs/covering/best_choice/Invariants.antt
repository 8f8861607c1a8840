use Rattle.subject_tree.specs.Order.{tree_cmp, place_cmp}
use Rattle.tree_cover.specs.Candidates.{order_of, BestOf, Below, FromGates}
use Rattle.tree_cover.specs.Held.{held}
use Rattle.tree_cover.proofs.covering.best_choice.Given as goal

abbrev pub invariant-loop-place : goal.invariant-loop-place
invariant-loop-place l =
    BestOf (order_of (tree_cmp (place_cmp l.leaves)) l.nodes) (Below l.place (FromGates l.nodes l.shapes l.choices l.gates l.number)) (held l.best)
