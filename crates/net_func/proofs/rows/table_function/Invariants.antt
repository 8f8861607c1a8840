use Rattle.std.proofs.Common.{take}
use Rattle.sis_base.specs.Rows.{some_matches}
use Rattle.net_func.specs.Numbered.{bits_of}
use Rattle.net_func.proofs.Making.{IsMaking}
use Rattle.net_func.proofs.rows.table_function.Given as goal

-- the sum of the rows so far
abbrev pub invariant-loop-row : goal.invariant-loop-row
invariant-loop-row g l =
    IsMaking g.F.Functions.holds g.F.Functions.tree g.F.Functions.limit l.fn.functions l.functions
    l.sum
    (λ point. some_matches (take l.row (g.T.Local.local l.table).rows) (bits_of g.F.Functions.tree
    l.fn.functions l.inputs point))
