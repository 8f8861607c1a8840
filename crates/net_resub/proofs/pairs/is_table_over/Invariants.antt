use Rattle.std.proofs.Common.{◌≡◌}
use Rattle.net_resub.proofs.Over.{rows_over}
use Rattle.net_resub.proofs.pairs.is_table_over.Given as goal

abbrev pub invariant-loop-row : goal.invariant-loop-row
invariant-loop-row g l = rows_over g.R.Row.literals l.names l.inputs l.rows 0 ≡ rows_over g.R.Row.literals l.names l.inputs l.rows l.row-index
