use Rattle.std.proofs.Common.{◌≡◌, Some, map, take, slice_get}
use Rattle.std.specs.Option.{option_map}
use Rattle.net_wires.specs.Rules.{rewired}
use Rattle.net_sweep.proofs.applying.rewired_tables.Given as goal

abbrev pub invariant-loop-place : goal.invariant-loop-place
invariant-loop-place l = map Some l.made.items ≡ map (λ place. option_map (rewired l.from l.to l.inverts) (slice_get l.aliased.tables place)) (take l.place-index l.places)
