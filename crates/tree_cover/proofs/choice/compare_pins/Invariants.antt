use Rattle.std.proofs.Common.{◌≡◌, ◌≤◌, ◌-◌, drop}
use Rattle.std.specs.Cmp.Lexicographic.{slice_cmp}
use Rattle.subject_tree.specs.Order.{tree_cmp, place_cmp}
use Rattle.subject_tree.specs.Tables.{trees_of}
use Rattle.tree_cover.proofs.choice.compare_pins.Given as goal

abbrev pub invariant-loop-place : goal.invariant-loop-place
invariant-loop-place l = record {
  within : l.place ≤ l.count;
  same : slice_cmp (tree_cmp (place_cmp l.leaves)) (trees_of l.nodes (drop l.place l.one)) (trees_of l.nodes (drop l.place l.other))
      ≡ slice_cmp (tree_cmp (place_cmp l.leaves)) (trees_of l.nodes l.one) (trees_of l.nodes l.other);
}

abbrev pub decreases-loop-place : goal.decreases-loop-place
decreases-loop-place l = l.count - l.place
