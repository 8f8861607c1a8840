use Rattle.std.proofs.Common.{◌+◌, length}
use Rattle.circuit_checks.proofs.Marking.{Searched, unseen}
use Rattle.circuit_checks.proofs.search.reached.Given as goal

abbrev pub invariant-loop-place : goal.invariant-loop-place
invariant-loop-place l = Searched l.graph l.from l.seen.items l.pending.items

abbrev pub decreases-loop-place : goal.decreases-loop-place
decreases-loop-place l = unseen l.seen.items + length l.pending.items
