use Rattle.std.proofs.Common.{◌≡◌, take}
use Rattle.std.specs.Prelude.{[], map}
use Rattle.sis_text.specs.Entries.{entry_at}
use Rattle.circuit_tables.specs.Listing.{names_with}
use Rattle.blif_lines.specs.Reader.{of_lines}
use Rattle.blif_models.specs.Sides.{listed_on}
use Rattle.blif_models.proofs.ports.listed.Given as goal

abbrev pub invariant-loop-line : goal.invariant-loop-line
invariant-loop-line l = l.set ≡ names_with [] (of_lines (listed_on l.side) (map (entry_at l.text) (take l.line-index l.lines)))
