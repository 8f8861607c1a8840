use Rattle.odc_simplify.proofs.Walks.{IsMultiplying}
use Rattle.odc_simplify.proofs.products.product_of.Given as goal

-- the product with the literals so far
abbrev pub invariant-loop-place : goal.invariant-loop-place
invariant-loop-place g l =
    IsMultiplying g.F.Functions.holds g.F.Functions.tree g.F.Functions.limit l.fn.functions
    l.functions l.fn.from l.made l.literals (g.R.Row.literals l.row) l.place
