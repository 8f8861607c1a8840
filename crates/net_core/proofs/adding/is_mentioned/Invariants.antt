use Rattle.std.proofs.Common.{◌≡◌, false, take}
use Rattle.circuit_model.specs.Names.{has}
use Rattle.circuit_model.specs.Soundness.{names_of}
use Rattle.net_core.proofs.adding.is_mentioned.Given as goal

abbrev pub invariant-loop-table : goal.invariant-loop-table
invariant-loop-table l = has (names_of (take l.table-index l.tables)) l.name ≡ false
