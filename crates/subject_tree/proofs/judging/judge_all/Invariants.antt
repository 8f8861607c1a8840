use Rattle.std.proofs.Common.{◌≡◌, map, take, bytes_eq}
use Rattle.indexmap.specs.IndexMap.{get}
use Rattle.circuit_model.specs.Names.{has}
use Rattle.circuit_model.specs.declared.circuit.Table.{Table}
use Rattle.subject_tree.specs.Tables.{is_constant}
use Rattle.subject_tree.specs.Forest.{fate_by, count_in}
use Rattle.subject_tree.proofs.judging.judge_all.Given as goal

abbrev pub invariant-loop-table : goal.invariant-loop-table
invariant-loop-table l =
    l.fates.items ≡ map (λ (table : Table). fate_by (is_constant table) (has l.outer.keys table.output) (count_in (get bytes_eq l.counts table.output))) (take l.table-index l.tables)
