use Rattle.std.proofs.Common.{◌≡◌, ◌||◌, ℕ, List, take}
use Rattle.circuit_model.specs.Names.{has}
use Rattle.circuit_model.specs.Soundness.{names_of}
use Rattle.net_core.proofs.reserved.note_tables.Given as goal

abbrev pub invariant-loop-table : goal.invariant-loop-table
invariant-loop-table l = (other : List ℕ) → has l.names.keys other ≡ (has l.fn.names.keys other || has (names_of (take l.table-index l.tables)) other)
