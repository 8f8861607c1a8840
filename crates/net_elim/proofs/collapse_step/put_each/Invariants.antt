use Rattle.std.proofs.Common.{◌≡◌, Some, take}
use Rattle.circuit_model.specs.declared.circuit.Table.{Table}
use Rattle.net_work.specs.Placed.{table_at}
use Rattle.net_elim.specs.Phases.{IsPut}
use Rattle.net_elim.proofs.collapse_step.put_each.Given as goal

abbrev pub invariant-loop-reader : goal.invariant-loop-reader
invariant-loop-reader g l = (inner : Table) → table_at l.fn.work.slots l.place ≡ Some inner → IsPut inner (take l.reader-index l.readers) l.fn.work l.work
