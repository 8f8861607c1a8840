use Rattle.std.proofs.Common.{◌+◌, length}
use Rattle.circuit_checks.proofs.Marking.{Searched, unseen}
use Rattle.net_resub.specs.Reaching.{graph_of}
use Rattle.net_resub.proofs.reaching.reached.Given as goal

abbrev pub invariant-loop-place : goal.invariant-loop-place
invariant-loop-place g l = Searched (graph_of l.work.slots) l.from l.seen.items l.pending.items

abbrev pub decreases-loop-place : goal.decreases-loop-place
decreases-loop-place g l = unseen l.seen.items + length l.pending.items
