use Rattle.std.proofs.Common.{◌≡◌, ◌++◌, drop}
use Rattle.alg_div.specs.Steps.{literals_in}
use Rattle.alg_kernel.specs.Search.{holding_rows}
use Rattle.alg_kernel.proofs.rows.rows_at.Given as goal

abbrev pub invariant-loop-row : goal.invariant-loop-row
invariant-loop-row l = literals_in l.made.items ++ holding_rows l.place l.bit (literals_in (drop l.row-index l.rows)) ≡ holding_rows l.place l.bit (literals_in l.rows)
