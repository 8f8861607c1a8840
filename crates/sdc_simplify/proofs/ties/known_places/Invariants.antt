use Rattle.std.proofs.Common.{◌≡◌, Some, map, take}
use Rattle.alg_tables.specs.Taking.{entries}
use Rattle.sdc_simplify.proofs.ties.known_places.Given as goal

abbrev pub invariant-loop-name : goal.invariant-loop-name
invariant-loop-name l = map Some l.places.items ≡ entries l.names (take l.name-index l.others)
