use Rattle.std.proofs.Common.{◌≡◌, ◌+◌, ◌^◌, ◌<◌, map, drop}
use Rattle.cube_cover.specs.Volumes.{cover_shares}
use Rattle.cube_cover.proofs.volume.is_too_small.Given as goal

abbrev pub invariant-loop-row : goal.invariant-loop-row
invariant-loop-row g l = (l.total + cover_shares (map g.R.Row.literals (drop l.row-index l.rows)) ≡ cover_shares (map g.R.Row.literals l.rows)) × (l.total < 2 ^ 63)
