use Rattle.std.proofs.Common.{◌≡◌, take}
use Rattle.circuit_model.specs.Names.{has}
use Rattle.circuit_laws.specs.Edits.{tables_kept}
use Rattle.net_wires.proofs.parts.tables_among.Given as goal

abbrev pub invariant-loop-table : goal.invariant-loop-table
invariant-loop-table l = l.made.items ≡ tables_kept (has l.signals.keys) (take l.table-index l.tables)
