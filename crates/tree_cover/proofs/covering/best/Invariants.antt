use Rattle.subject_tree.specs.Order.{tree_cmp, place_cmp}
use Rattle.tree_cover.specs.Covers.{tiles}
use Rattle.tree_cover.specs.Candidates.{AreMade}
use Rattle.tree_cover.proofs.covering.best.Given as goal

abbrev pub invariant-loop-number : goal.invariant-loop-number
invariant-loop-number l = AreMade (tree_cmp (place_cmp l.leaves)) l.nodes (tiles l.patterns.arena l.patterns.gates) l.choices l.number
