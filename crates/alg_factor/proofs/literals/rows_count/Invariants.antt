use Rattle.std.proofs.Common.{◌≡◌, ◌+◌, map, drop}
use Rattle.cube_cover.specs.Literals.{cover_literals}
use Rattle.alg_factor.proofs.literals.rows_count.Given as goal

abbrev pub invariant-loop-row : goal.invariant-loop-row
invariant-loop-row g l = l.count + cover_literals (map g.R.Row.literals (drop l.row-index l.rows)) ≡ cover_literals (map g.R.Row.literals l.rows)
