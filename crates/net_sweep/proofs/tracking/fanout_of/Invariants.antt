use Rattle.std.proofs.Common.{take, bytes_eq}
use Rattle.indexmap.specs.IndexMap.{get}
use Rattle.net_sweep.proofs.Enqueuing.{AreUnder, HasNoted}
use Rattle.net_sweep.proofs.tracking.fanout_of.Given as goal

abbrev pub invariant-loop-output : goal.invariant-loop-output
invariant-loop-output l = AreUnder (get bytes_eq l.lists) l.latches × HasNoted (get bytes_eq l.lists) (take l.output-index l.outputs)
