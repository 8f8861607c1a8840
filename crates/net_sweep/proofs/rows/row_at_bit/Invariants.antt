use Rattle.std.proofs.Common.{◌≡◌, drop}
use Rattle.net_sweep.specs.Columns.{row_at_marks}
use Rattle.net_sweep.proofs.RowSteps.{behind}
use Rattle.net_sweep.proofs.rows.row_at_bit.Given as goal

abbrev pub invariant-loop-i : goal.invariant-loop-i
invariant-loop-i l = behind l.made (row_at_marks l.bit (drop l.i l.marks) (drop l.i l.row)) ≡ row_at_marks l.bit l.marks l.row
