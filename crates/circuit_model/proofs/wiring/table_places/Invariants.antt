use Rattle.std.proofs.Common.{◌≡◌, take, bytes_eq}
use Rattle.circuit_model.specs.Levels.{reads_in}
use Rattle.indexmap.specs.IndexMap.{get}
use Rattle.circuit_model.proofs.wiring.table_places.Given as goal

abbrev pub invariant-loop-table : goal.invariant-loop-table
invariant-loop-table l = l.reads ≡ reads_in (get bytes_eq l.index) (take l.table-index l.tables)
