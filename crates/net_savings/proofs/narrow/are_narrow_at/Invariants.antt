use Rattle.std.proofs.Common.{take}
use Rattle.std.specs.List.{AllByRecursion}
use Rattle.net_work.specs.Placed.{table_at}
use Rattle.net_savings.specs.Saving.{IsNarrowIn}
use Rattle.net_savings.proofs.narrow.are_narrow_at.Given as goal

abbrev pub invariant-loop-place : goal.invariant-loop-place
invariant-loop-place g l = AllByRecursion (λ place. IsNarrowIn l.name l.cover (table_at l.work.slots place)) (take l.place-index l.places)
