use Rattle.std.proofs.Common.{◌≡◌, map, option_copied}
use Rattle.std.specs.List.{range_with_len}
use Rattle.blif_models.specs.PortTables.{next_ports}
use Rattle.blif_models.proofs.ports.next_table.Given as goal

abbrev pub invariant-loop-place : goal.invariant-loop-place
invariant-loop-place l = l.next.items ≡ map (next_ports (option_copied l.library) l.file.models l.table) (range_with_len 0 l.place)
