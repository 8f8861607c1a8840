use Rattle.std.proofs.Common.{◌↔◌, map, drop, Bor}
use Rattle.cover_names.specs.Literals.{Cube}
use Rattle.net_candidates.specs.Pairs.{IsSharedByTwo}
use Rattle.net_candidates.proofs.sharers.two_share.Given as goal

abbrev pub invariant-loop-place : goal.invariant-loop-place
invariant-loop-place l = IsSharedByTwo (map (λ (one : Bor Cube). one.now) (drop l.place l.cubes)) l.cube ↔ IsSharedByTwo (map (λ (one : Bor Cube). one.now) l.cubes) l.cube
