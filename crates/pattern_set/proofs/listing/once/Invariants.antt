use Rattle.std.proofs.Common.{take, nat_eq}
use Rattle.std.specs.List.{IsDistinct}
use Rattle.pattern_set.specs.Numbers.{HaveSame}
use Rattle.pattern_set.proofs.listing.once.Given as goal

abbrev pub invariant-loop-number : goal.invariant-loop-number
invariant-loop-number l = record {
  once : IsDistinct nat_eq l.kept.keys;
  same : HaveSame l.kept.keys (take l.number-index l.numbers);
}
