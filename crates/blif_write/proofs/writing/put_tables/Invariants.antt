use Rattle.std.proofs.Common.{◌≡◌, ◌++◌, take}
use Rattle.std.specs.List.{flat_map}
use Rattle.sis_base.specs.Written.{lines_text}
use Rattle.circuit_model.specs.Text.{table_lines}
use Rattle.blif_write.proofs.writing.put_tables.Given as goal

abbrev pub invariant-loop-table : goal.invariant-loop-table
invariant-loop-table l = l.out.items ≡ l.fn.out.items ++ lines_text (flat_map table_lines (take l.table-index l.tables))
