use Rattle.std.proofs.Common.{◌≡◌, ◌++◌, drop, map}
use Rattle.alg_div.specs.Cubes.{products_by}
use Rattle.alg_div.proofs.steps.add_products.Given as goal

abbrev pub invariant-loop-row : goal.invariant-loop-row
invariant-loop-row g l =
    map g.R.Row.literals l.made.items ++ products_by (g.R.Row.literals l.cube) (map g.R.Row.literals (drop l.row-index l.rows))
    ≡ map g.R.Row.literals l.fn.made.items ++ products_by (g.R.Row.literals l.cube) (map g.R.Row.literals l.rows)
