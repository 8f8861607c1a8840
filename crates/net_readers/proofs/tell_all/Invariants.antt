use Rattle.std.proofs.Common.{take, bytes_eq}
use Rattle.indexmap.specs.IndexMap.{get}
use Rattle.net_readers.specs.Fanouts.{in_set}
use Rattle.net_readers.proofs.Sets.{HasTold}
use Rattle.net_readers.proofs.tell_all.Given as goal

abbrev pub invariant-loop-name : goal.invariant-loop-name
invariant-loop-name l = HasTold (take l.name-index l.names) l.place (λ name at. in_set (get bytes_eq l.fn.sets name) at) (λ name at. in_set (get bytes_eq l.sets name) at)
