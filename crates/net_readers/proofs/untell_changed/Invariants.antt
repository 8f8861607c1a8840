use Rattle.std.proofs.Common.{take, bytes_eq}
use Rattle.indexmap.specs.IndexMap.{get}
use Rattle.net_readers.specs.Fanouts.{in_set, HasUntold}
use Rattle.net_readers.proofs.untell_changed.Given as goal

abbrev pub invariant-loop-i : goal.invariant-loop-i
invariant-loop-i l = HasUntold (take l.i l.before) l.now l.place (λ name at. in_set (get bytes_eq l.fn.sets name) at) (λ name at. in_set (get bytes_eq l.sets name) at)
