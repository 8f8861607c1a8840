use Rattle.std.proofs.Common.{take}
use Rattle.net_resub.specs.Listed.{is_under, AreJoined}
use Rattle.net_resub.proofs.listed.DivisorLists.push_listed.Given as goal

abbrev pub invariant-loop-name : goal.invariant-loop-name
invariant-loop-name l = AreJoined (is_under l.self) (take l.name-index l.names) l.fn.places.items l.places.items
