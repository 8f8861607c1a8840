use Rattle.std.proofs.Common.{◌≡◌, flat_map, take}
use Rattle.net_work.specs.Placed.{table_at}
use Rattle.net_savings.specs.Sharing.{cubes_in}
use Rattle.net_savings.proofs.sharing.cubes_at_all.Given as goal

abbrev pub invariant-loop-place : goal.invariant-loop-place
invariant-loop-place g l = l.cubes.items ≡ flat_map (λ at. cubes_in (table_at l.work.slots at)) (take l.place-index l.places)
