use Rattle.std.proofs.Common.{◌≡◌, map, take, bytes_eq}
use Rattle.indexmap.specs.IndexMap.{get}
use Rattle.circuit_model.specs.declared.circuit.Table.{Table}
use Rattle.circuit_order.specs.Places.{placed_count}
use Rattle.circuit_order.proofs.index.placed_inputs.Given as goal

abbrev pub invariant-loop-table : goal.invariant-loop-table
invariant-loop-table l = l.counts.items ≡ map (λ (table : Table). placed_count (get bytes_eq l.index) table.inputs) (take l.table-index l.tables)
