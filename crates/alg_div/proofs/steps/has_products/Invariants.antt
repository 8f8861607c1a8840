use Rattle.std.proofs.Common.{take, map}
use Rattle.alg_div.specs.Steps.{HasProducts}
use Rattle.alg_div.proofs.steps.has_products.Given as goal

abbrev pub invariant-loop-row : goal.invariant-loop-row
invariant-loop-row g l =
    HasProducts (map g.R.Row.literals l.f) (g.R.Row.literals l.cube) (map g.R.Row.literals (take l.row-index l.d))
