use Rattle.std.proofs.Common.{◌≡◌, ◌+◌, length, drop, ◌≤◌}
use Rattle.alg_div.specs.Steps.{literals_in}
use Rattle.alg_kernel.specs.Search.{holding_rows}
use Rattle.alg_kernel.proofs.rows.count_at.Given as goal

abbrev pub invariant-loop-row : goal.invariant-loop-row
invariant-loop-row l = record {
  counted : l.count + length (holding_rows l.place l.bit (literals_in (drop l.row-index l.rows))) ≡ length (holding_rows l.place l.bit (literals_in l.rows));
  few : l.count ≤ l.row-index;
}
