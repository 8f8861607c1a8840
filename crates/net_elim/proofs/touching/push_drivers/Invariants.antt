use Rattle.std.proofs.Common.{take}
use Rattle.net_elim.specs.Touching.{IsGrown}
use Rattle.net_elim.proofs.touching.push_drivers.Given as goal

abbrev pub invariant-loop-name : goal.invariant-loop-name
invariant-loop-name g l = IsGrown l.work.slots (take l.name-index l.names) l.fn.places.items l.places.items
