use Rattle.std.proofs.Common.{◌≡◌, map, drop}
use Rattle.sis_base.specs.Rows.{some_matches}
use Rattle.cube_cover.proofs.cover.rows_match.Given as goal

abbrev pub invariant-loop-row : goal.invariant-loop-row
invariant-loop-row g l = some_matches (map g.R.Row.literals l.rows) l.point ≡ some_matches (map g.R.Row.literals (drop l.row-index l.rows)) l.point
