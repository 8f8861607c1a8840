use Rattle.std.proofs.Common.{◌≡◌, take}
use Rattle.std.specs.Prelude.{[], flat_map, map, option_copied}
use Rattle.sis_text.specs.Entries.{entry_at}
use Rattle.circuit_tables.specs.Listing.{names_with}
use Rattle.blif_models.specs.PortTables.{ports_by}
use Rattle.blif_models.specs.Sides.{signals_with}
use Rattle.blif_models.proofs.port_lines.signals.Given as goal

abbrev pub invariant-loop-line : goal.invariant-loop-line
invariant-loop-line l = l.set ≡ names_with [] (flat_map (signals_with l.side (option_copied l.library) (ports_by l.file.models l.table)) (map (entry_at l.file.text) (take l.line-index l.lines)))
