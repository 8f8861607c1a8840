use Rattle.std.proofs.Common.{◌≡◌, take}
use Rattle.std.specs.List.{filter_map}
use Rattle.net_sweep.specs.Columns.{row_at_marks}
use Rattle.net_sweep.proofs.rows.rows_at_bit.Given as goal

abbrev pub invariant-loop-row : goal.invariant-loop-row
invariant-loop-row l = l.made ≡ filter_map (row_at_marks l.bit l.marks) (take l.row-index l.rows)
