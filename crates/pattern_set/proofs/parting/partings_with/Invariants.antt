use Rattle.std.proofs.Common.{◌≡◌, ◌++◌, map, take}
use Rattle.pattern_set.specs.Lists.{with_first, with_second}
use Rattle.pattern_set.proofs.parting.partings_with.Given as goal

abbrev pub invariant-loop-parting : goal.invariant-loop-parting
invariant-loop-parting l = l.made.items ≡ map (with_first l.place) (take l.parting-index l.partings)

abbrev pub invariant-loop-other : goal.invariant-loop-other
invariant-loop-other l =
    l.made.items ≡ map (with_first l.place) l.partings ++ map (with_second l.place) (take l.other-index l.partings)
