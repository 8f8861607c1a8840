use Rattle.std.proofs.Common.{take, bytes_eq}
use Rattle.indexmap.specs.IndexMap.{get}
use Rattle.net_sweep.proofs.Enqueuing.{AreUnder}
use Rattle.net_sweep.proofs.tracking.latch_fanout.Given as goal

abbrev pub invariant-loop-place : goal.invariant-loop-place
invariant-loop-place l = AreUnder (get bytes_eq l.lists) (take l.place l.latches)
