use Rattle.net_savings.proofs.Marking.{AreKeptTo}
use Rattle.net_savings.proofs.marks.keep_common.Given as goal

abbrev pub invariant-loop-place : goal.invariant-loop-place
invariant-loop-place l = AreKeptTo l.fn.held l.others l.held l.place
