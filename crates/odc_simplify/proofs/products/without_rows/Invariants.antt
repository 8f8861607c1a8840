use Rattle.std.proofs.Common.{map, drop}
use Rattle.odc_simplify.proofs.Walks.{IsTakingOut}
use Rattle.odc_simplify.proofs.products.without_rows.Given as goal

-- the function without the rows so far
abbrev pub invariant-loop-row : goal.invariant-loop-row
invariant-loop-row g l =
    IsTakingOut g.F.Functions.holds g.F.Functions.tree g.F.Functions.limit l.fn.functions
    l.functions l.fn.from l.left l.literals (map g.R.Row.literals l.rows)
    (map g.R.Row.literals (drop l.row-index l.rows))
