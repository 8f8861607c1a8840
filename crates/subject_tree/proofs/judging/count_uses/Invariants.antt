use Rattle.std.proofs.Common.{◌≤◌, length, drop, bytes_eq}
use Rattle.indexmap.specs.IndexMap.{get}
use Rattle.subject_tree.specs.Forest.{uses_of, AreCounts}
use Rattle.subject_tree.proofs.judging.count_uses.Given as goal

abbrev pub invariant-loop-place : goal.invariant-loop-place
invariant-loop-place l = record {
  within : l.place ≤ length l.tables;
  counts : AreCounts (get bytes_eq l.counts) (uses_of (drop l.place l.tables));
}

abbrev pub decreases-loop-place : goal.decreases-loop-place
decreases-loop-place l = l.place
