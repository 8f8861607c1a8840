use Rattle.std.proofs.Common.{[], take, slice_index_or}
use Rattle.sis_base.specs.Rows.{matches}
use Rattle.net_func.specs.Numbered.{bits_of}
use Rattle.net_func.proofs.Making.{IsMaking}
use Rattle.net_func.proofs.rows.row_product.Given as goal

-- the product of the literals so far
abbrev pub invariant-loop-place : goal.invariant-loop-place
invariant-loop-place g l =
    IsMaking g.F.Functions.holds g.F.Functions.tree g.F.Functions.limit l.fn.functions l.functions
    l.product
    (λ point. matches (take l.place (slice_index_or (g.T.Local.local l.table).rows l.row []))
    (bits_of g.F.Functions.tree l.fn.functions l.inputs point))
