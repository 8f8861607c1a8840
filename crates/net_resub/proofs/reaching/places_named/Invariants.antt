use Rattle.std.proofs.Common.{◌≡◌, ◌++◌, drop}
use Rattle.net_resub.specs.Reaching.{places_named}
use Rattle.net_resub.proofs.reaching.places_named.Given as goal

abbrev pub invariant-loop-name : goal.invariant-loop-name
invariant-loop-name g l = l.places.items ++ places_named l.work.slots (drop l.name-index l.names) ≡ places_named l.work.slots l.names
