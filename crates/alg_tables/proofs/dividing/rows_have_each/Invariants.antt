use Rattle.std.proofs.Common.{◌≡◌, map, drop}
use Rattle.alg_tables.specs.Containing.{rows_have_each}
use Rattle.alg_tables.proofs.dividing.rows_have_each.Given as goal

abbrev pub invariant-loop-cube : goal.invariant-loop-cube
invariant-loop-cube g l =
    rows_have_each (map g.R.Row.literals (drop l.cube-index l.cubes)) l.cover.rows
    ≡ rows_have_each l.divisor.rows l.cover.rows
