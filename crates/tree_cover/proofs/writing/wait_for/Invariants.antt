use Rattle.std.proofs.Common.{◌≡◌, ◌++◌, ◌≤◌, length, drop}
use Rattle.tree_cover.specs.Postorder.{visits}
use Rattle.tree_cover.proofs.writing.wait_for.Given as goal

abbrev pub invariant-loop-place : goal.invariant-loop-place
invariant-loop-place l = record {
  within : l.place ≤ length l.numbers;
  behind : l.waiting.items ≡ l.fn.waiting.items ++ visits (drop l.place l.numbers);
}

abbrev pub decreases-loop-place : goal.decreases-loop-place
decreases-loop-place l = l.place
