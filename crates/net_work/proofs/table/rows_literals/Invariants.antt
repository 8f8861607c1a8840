use Rattle.std.proofs.Common.{◌≡◌, ◌≤◌, ◌*◌, ◌^◌, map, take}
use Rattle.std.specs.List.{sum_by}
use Rattle.circuit_model.specs.Counts.{literals_of_row}
use Rattle.net_core.specs.Tables.{characters_of}
use Rattle.net_work.proofs.table.rows_literals.Given as goal

abbrev pub invariant-loop-row : goal.invariant-loop-row
invariant-loop-row g l = (l.total ≡ sum_by literals_of_row (map characters_of (map g.R.Row.literals (take l.row-index l.rows)))) × (l.total ≤ l.row-index * 2 ^ 64)
