use Rattle.subject_tree.specs.Order.{tree_cmp, place_cmp}
use Rattle.tree_cover.specs.Candidates.{order_of, BestOf, Below, FromPatterns}
use Rattle.tree_cover.specs.Held.{held}
use Rattle.tree_cover.proofs.covering.best_gate.Given as goal

abbrev pub invariant-loop-pattern : goal.invariant-loop-pattern
invariant-loop-pattern l =
    BestOf (order_of (tree_cmp (place_cmp l.leaves)) l.nodes) (Below l.pattern-index (FromPatterns l.nodes l.shapes l.choices l.gate l.place l.number)) (held l.best)
