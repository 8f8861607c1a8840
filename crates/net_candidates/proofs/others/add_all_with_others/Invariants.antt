use Rattle.std.proofs.Common.{take}
use Rattle.net_candidates.specs.Pairs.{shared_by_each}
use Rattle.net_candidates.proofs.WithOthers.{HasGained}
use Rattle.net_candidates.proofs.others.add_all_with_others.Given as goal

abbrev pub invariant-loop-cube : goal.invariant-loop-cube
invariant-loop-cube l = HasGained (shared_by_each l.others (take l.cube-index l.cubes)) l.fn.made.keys l.made.keys
