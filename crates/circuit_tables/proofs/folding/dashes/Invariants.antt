use Rattle.std.proofs.Common.{◌≡◌, take}
use Rattle.circuit_tables.specs.Listing.{dashes_of}
use Rattle.circuit_tables.proofs.folding.dashes.Given as goal

abbrev pub invariant-loop-name : goal.invariant-loop-name
invariant-loop-name l = l.made.items ≡ dashes_of (take l._name-index l.names)
