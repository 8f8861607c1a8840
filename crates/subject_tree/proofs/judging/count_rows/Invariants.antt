use Rattle.std.proofs.Common.{ℕ, ◌+◌, ◌≤◌, List, length, drop, bytes_eq}
use Rattle.indexmap.specs.IndexMap.{get}
use Rattle.subject_tree.specs.Forest.{uses_in_rows, AreCounts}
use Rattle.subject_tree.proofs.judging.count_rows.Given as goal

abbrev pub invariant-loop-place : goal.invariant-loop-place
invariant-loop-place l = record {
  within : l.place ≤ length l.rows;
  counts : (uses : List ℕ → ℕ) → AreCounts (get bytes_eq l.fn.counts) uses → AreCounts (get bytes_eq l.counts) (λ signal. uses signal + uses_in_rows signal l.inputs (drop l.place l.rows));
}

abbrev pub decreases-loop-place : goal.decreases-loop-place
decreases-loop-place l = l.place
