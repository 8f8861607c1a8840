use Rattle.std.proofs.Common.{◌↔◌, map, drop, Bor}
use Rattle.cover_names.specs.Literals.{Cube}
use Rattle.net_candidates.specs.Pairs.{IsSharedWithSome}
use Rattle.net_candidates.proofs.sharers.shares_with_some.Given as goal

abbrev pub invariant-loop-other : goal.invariant-loop-other
invariant-loop-other l = IsSharedWithSome (map (λ (other : Bor Cube). other.now) (drop l.other-index l.others)) l.one l.cube ↔ IsSharedWithSome (map (λ (other : Bor Cube). other.now) l.others) l.one l.cube
