use Rattle.std.proofs.Common.{◌≡◌, drop}
use Rattle.sis_base.specs.Rows.{matches}
use Rattle.cube_cover.proofs.cover.row_matches.Given as goal

abbrev pub invariant-loop-place : goal.invariant-loop-place
invariant-loop-place g l = matches (g.R.Row.literals l.row) l.point ≡ matches (drop l.place (g.R.Row.literals l.row)) (drop l.place l.point)
