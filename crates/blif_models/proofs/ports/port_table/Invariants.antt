use Rattle.std.proofs.Common.{◌≡◌, ◌+◌, option_copied}
use Rattle.blif_models.specs.PortTables.{table_at}
use Rattle.blif_models.proofs.ports.port_table.Given as goal

abbrev pub invariant-loop-round : goal.invariant-loop-round
invariant-loop-round l = l.table.items ≡ table_at (option_copied l.library) l.file.models (l._round + 1)
