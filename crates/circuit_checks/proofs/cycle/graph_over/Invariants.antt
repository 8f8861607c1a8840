use Rattle.std.proofs.Common.{◌≡◌, map, take, bytes_eq}
use Rattle.std.specs.List.{filter_map}
use Rattle.indexmap.specs.IndexMap.{get}
use Rattle.circuit_model.specs.declared.circuit.Table.{Table}
use Rattle.circuit_checks.proofs.cycle.graph_over.Given as goal

abbrev pub invariant-loop-table : goal.invariant-loop-table
invariant-loop-table l = l.graph.items ≡ map (λ (table : Table). filter_map (get bytes_eq l.firsts) table.inputs) (take l.table-index l.tables)
