use Rattle.std.proofs.Common.{◌≡◌, map, take}
use Rattle.cube_cover.specs.Literals.{row_contains}
use Rattle.net_candidates.specs.Spots.{many}
use Rattle.net_savings.proofs.by_rows.count_holders.Given as goal

abbrev pub invariant-loop-row : goal.invariant-loop-row
invariant-loop-row g l = l.count ≡ many (row_contains (g.R.Row.literals l.wanted)) (map g.R.Row.literals (take l.row-index l.rows))
