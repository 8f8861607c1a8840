use Rattle.std.proofs.Common.{◌≡◌, ◌++◌, map, drop}
use Rattle.cube_cover.specs.Covers.{cofactor_rows}
use Rattle.cube_cover.proofs.cover.rows_at.Given as goal

abbrev pub invariant-loop-row : goal.invariant-loop-row
invariant-loop-row g l = map g.R.Row.literals l.made.items ++ cofactor_rows l.place l.bit (map g.R.Row.literals (drop l.row-index l.rows)) ≡ cofactor_rows l.place l.bit (map g.R.Row.literals l.rows)
