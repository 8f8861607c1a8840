use Rattle.std.proofs.Common.{◌≡◌, drop}
use Rattle.circuit_tables.specs.Listing.{names_with}
use Rattle.net_wires.proofs.needed.add_names.Given as goal

abbrev pub invariant-loop-name : goal.invariant-loop-name
invariant-loop-name l = names_with l.names.keys (drop l.name-index l.more) ≡ names_with l.fn.names.keys l.more
