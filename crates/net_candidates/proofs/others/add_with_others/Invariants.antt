use Rattle.std.proofs.Common.{take}
use Rattle.net_candidates.specs.Pairs.{shared_of}
use Rattle.net_candidates.proofs.Keeping.{HasFound}
use Rattle.net_candidates.proofs.others.add_with_others.Given as goal

abbrev pub invariant-loop-other : goal.invariant-loop-other
invariant-loop-other l = HasFound (shared_of l.cube) (take l.other-index l.others) l.fn.made.keys l.made.keys
