use Rattle.std.proofs.Common.{◌-◌, ◌≤◌, length}
use Rattle.cover_search.proofs.weights.next_open.Given as goal

abbrev pub invariant-loop-place : goal.invariant-loop-place
invariant-loop-place g l = l.from ≤ l.next

abbrev pub decreases-loop-place : goal.decreases-loop-place
decreases-loop-place g l = length (g.R.Row.literals l.row) - l.next
