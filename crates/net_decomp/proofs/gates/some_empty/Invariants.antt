use Rattle.std.proofs.Common.{◌≡◌, map, drop}
use Rattle.cube_cover.specs.Literals.{some_dashes}
use Rattle.net_decomp.proofs.gates.some_empty.Given as goal

abbrev pub invariant-loop-row : goal.invariant-loop-row
invariant-loop-row g l = some_dashes (map g.R.Row.literals (drop l.row-index l.rows)) ≡ some_dashes (map g.R.Row.literals l.rows)
