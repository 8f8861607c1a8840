use Rattle.std.proofs.Common.{◌≡◌, take}
use Rattle.alg_tables.specs.Taking.{entries}
use Rattle.alg_tables.proofs.inputs.places_in.Given as goal

abbrev pub invariant-loop-name : goal.invariant-loop-name
invariant-loop-name l = l.places.items ≡ entries l.names.keys (take l.name-index l.others)
