use Rattle.std.proofs.Common.{◌≡◌, ◌++◌, drop, map}
use Rattle.alg_div.specs.Cubes.{products}
use Rattle.alg_div.proofs.steps.products_of.Given as goal

abbrev pub invariant-loop-cube : goal.invariant-loop-cube
invariant-loop-cube g l =
    map g.R.Row.literals l.made.items ++ products (map g.R.Row.literals (drop l.cube-index l.cubes)) l.rows.rows
    ≡ products (map g.R.Row.literals l.cubes) l.rows.rows
