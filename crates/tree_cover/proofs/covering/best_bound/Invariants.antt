use Rattle.subject_tree.specs.Order.{tree_cmp, place_cmp}
use Rattle.tree_cover.specs.Candidates.{order_of, BestOf, Below, FromBindings}
use Rattle.tree_cover.specs.Held.{held}
use Rattle.tree_cover.proofs.covering.best_bound.Given as goal

abbrev pub invariant-loop-binding : goal.invariant-loop-binding
invariant-loop-binding l =
    BestOf (order_of (tree_cmp (place_cmp l.leaves)) l.nodes) (Below l.binding-index (FromBindings l.choices l.gate l.place l.bindings)) (held l.best)
