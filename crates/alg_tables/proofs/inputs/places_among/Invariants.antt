use Rattle.std.proofs.Common.{◌≡◌, take}
use Rattle.alg_tables.specs.Taking.{entries}
use Rattle.alg_tables.proofs.inputs.places_among.Given as goal

abbrev pub invariant-loop-name : goal.invariant-loop-name
invariant-loop-name l = l.places.items ≡ entries l.names (take l.name-index l.others)
