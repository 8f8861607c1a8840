use Rattle.std.proofs.Common.{◌≤◌, length, drop}
use Rattle.subject_tree.specs.Trees.{sum_of}
use Rattle.subject_tree.specs.Arenas.{KeepsTrees}
use Rattle.subject_tree.specs.Tables.{joined, row_trees, trees_of, Finds}
use Rattle.subject_tree.proofs.tables.rows_number.Given as goal

abbrev pub invariant-loop-place : goal.invariant-loop-place
invariant-loop-place l = record {
  within : l.place ≤ length l.rows;
  kept : KeepsTrees l.fn.arena l.arena;
  finds : Finds l.arena l.made (joined sum_of (row_trees (trees_of l.fn.arena l.inputs) (drop l.place l.rows)));
}

abbrev pub decreases-loop-place : goal.decreases-loop-place
decreases-loop-place l = l.place
