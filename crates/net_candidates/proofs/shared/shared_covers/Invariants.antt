use Rattle.std.proofs.Common.{take}
use Rattle.net_candidates.specs.Spots.{told}
use Rattle.net_candidates.proofs.Listing.{AreListed}
use Rattle.net_candidates.proofs.shared.shared_covers.Given as goal

abbrev pub invariant-loop-place : goal.invariant-loop-place
invariant-loop-place l = AreListed (take l.place l.cubes) l.made.keys (told l.spots)
