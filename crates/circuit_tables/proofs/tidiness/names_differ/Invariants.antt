use Rattle.std.proofs.Common.{◌≡◌, drop}
use Rattle.circuit_tables.specs.Folding.{each_once}
use Rattle.circuit_tables.specs.Listing.{names_with}
use Rattle.circuit_tables.proofs.tidiness.names_differ.Given as goal

abbrev pub invariant-loop-name : goal.invariant-loop-name
invariant-loop-name l = names_with l.seen.keys (drop l.name-index l.names) ≡ each_once l.names
