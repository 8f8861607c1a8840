use Rattle.std.proofs.Common.{◌≡◌, find, map, drop}
use Rattle.sis_text.specs.Entries.{entry_at}
use Rattle.blif_models.specs.PortFaults.{is_wrong}
use Rattle.blif_models.proofs.port_faults.lines_wrong.Given as goal

abbrev pub invariant-loop-line : goal.invariant-loop-line
invariant-loop-line l =
    find (is_wrong l.file.models l.table) (map (entry_at l.file.text) (drop l.line-index l.lines)) ≡ find (is_wrong l.file.models l.table) (map (entry_at l.file.text) l.lines)
