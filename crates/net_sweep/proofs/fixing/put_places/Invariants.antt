use Rattle.std.proofs.Common.{take}
use Rattle.std.specs.Ordering.{nat_cmp}
use Rattle.std.specs.BTreeSet.{contains}
use Rattle.net_sweep.proofs.Enqueuing.{HasPut}
use Rattle.net_sweep.proofs.fixing.put_places.Given as goal

abbrev pub invariant-loop-place : goal.invariant-loop-place
invariant-loop-place l = HasPut (take l.place-index l.places) (contains nat_cmp l.fn.set) (contains nat_cmp l.set)
