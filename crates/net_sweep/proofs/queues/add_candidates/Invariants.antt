use Rattle.std.proofs.Common.{take}
use Rattle.net_sweep.specs.Settled.{is_candidate}
use Rattle.net_sweep.proofs.Marking.{HasMarked}
use Rattle.net_sweep.proofs.queues.add_candidates.Given as goal

abbrev pub invariant-loop-put : goal.invariant-loop-put
invariant-loop-put l = HasMarked (take l.put-index l.places) (is_candidate l.fn.candidates) (is_candidate l.candidates)
