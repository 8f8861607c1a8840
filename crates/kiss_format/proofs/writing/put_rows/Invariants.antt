use Rattle.std.proofs.Common.{◌≡◌, ◌++◌, take, map}
use Rattle.sis_base.specs.Written.{lines_text}
use Rattle.circuit_model.specs.MachineText.{row_line}
use Rattle.kiss_format.proofs.writing.put_rows.Given as goal

abbrev pub invariant-loop-row : goal.invariant-loop-row
invariant-loop-row l = l.out.items ≡ l.fn.out.items ++ lines_text (map (row_line l.states) (take l.row-index l.rows))
