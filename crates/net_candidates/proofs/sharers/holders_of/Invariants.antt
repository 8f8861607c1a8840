use Rattle.std.proofs.Common.{◌≡◌, ◌++◌, map, filter, drop, Bor}
use Rattle.net_candidates.specs.Pairs.{has_all}
use Rattle.cover_names.specs.Literals.{Cube}
use Rattle.net_candidates.proofs.sharers.holders_of.Given as goal

abbrev pub invariant-loop-one : goal.invariant-loop-one
invariant-loop-one l = map (λ (one : Bor Cube). one.now) l.made.items ++ filter (has_all l.cube) (drop l.one-index l.cubes) ≡ filter (has_all l.cube) l.cubes
