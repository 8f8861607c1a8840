use Rattle.std.proofs.Common.{◌≡◌, map, drop}
use Rattle.alg_tables.specs.Containing.{some_row_has}
use Rattle.alg_tables.proofs.dividing.some_row_has.Given as goal

abbrev pub invariant-loop-row : goal.invariant-loop-row
invariant-loop-row g l =
    some_row_has (g.R.Row.literals l.cube) (map g.R.Row.literals (drop l.row-index l.rows))
    ≡ some_row_has (g.R.Row.literals l.cube) (map g.R.Row.literals l.rows)
