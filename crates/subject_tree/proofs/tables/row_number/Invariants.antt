use Rattle.std.proofs.Common.{◌≤◌, length, drop}
use Rattle.subject_tree.specs.Arenas.{KeepsTrees}
use Rattle.subject_tree.specs.Tables.{row_tree, trees_of, Finds}
use Rattle.subject_tree.proofs.tables.row_number.Given as goal

abbrev pub invariant-loop-place : goal.invariant-loop-place
invariant-loop-place l = record {
  within : l.place ≤ length l.inputs;
  kept : KeepsTrees l.fn.arena l.arena;
  finds : Finds l.arena l.made (row_tree (trees_of l.fn.arena (drop l.place l.inputs)) (drop l.place l.row));
}

abbrev pub decreases-loop-place : goal.decreases-loop-place
decreases-loop-place l = l.place
