use Rattle.std.proofs.Common.{◌≡◌, drop}
use Rattle.std.specs.List.{AllByRecursion}
use Rattle.net_core.specs.Reads.{IsBounded}
use Rattle.net_work.specs.Placed.{standing}
use Rattle.net_extract.specs.Dividing.{with_divided}
use Rattle.net_extract.specs.Known.{AreCounted, StaySaved}
use Rattle.net_extract.proofs.stepping.divide_places.Given as goal

abbrev pub invariant-loop-place : goal.invariant-loop-place
invariant-loop-place g l = record {
  divided : with_divided l.name l.cover (drop l.place-index l.places) l.work ≡ with_divided l.name l.cover l.places l.fn.work;
  bounded : AllByRecursion IsBounded (standing l.fn.work.slots) → AllByRecursion IsBounded (standing l.work.slots);
  known : AreCounted l.work.slots l.known.gains;
  saved : StaySaved l.fn.work l.fn.known.savings l.work l.known.savings;
}
