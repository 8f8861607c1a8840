use Rattle.std.proofs.Common.{◌≡◌, ◌++◌, false, map, take}
use Rattle.circuit_model.specs.declared.circuit.Table.{Table}
use Rattle.circuit_model.proofs.simulation.add_zeros.Given as goal

abbrev pub invariant-loop-table : goal.invariant-loop-table
invariant-loop-table l = l.bits.items ≡ l.fn.bits.items ++ map (λ (table : Table). false) (take l._table-index l.tables)
