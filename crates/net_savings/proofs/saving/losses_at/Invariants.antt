use Rattle.std.proofs.Common.{◌≡◌, take}
use Rattle.std.specs.List.{AllByRecursion}
use Rattle.net_work.specs.Placed.{table_at}
use Rattle.net_savings.specs.Saving.{lost_at, IsNarrowIn}
use Rattle.net_savings.proofs.saving.losses_at.Given as goal

abbrev pub invariant-loop-place : goal.invariant-loop-place
invariant-loop-place g l = record {
  total : l.total ≡ lost_at l.name l.cover l.work.slots (take l.place-index l.places);
  narrow : AllByRecursion (λ place. IsNarrowIn l.name l.cover (table_at l.work.slots place)) (take l.place-index l.places);
}
