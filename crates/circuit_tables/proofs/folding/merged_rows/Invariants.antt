use Rattle.std.proofs.Common.{◌≡◌, take}
use Rattle.std.specs.List.{filter_map}
use Rattle.circuit_tables.specs.Listing.{merge_row, dashes_of}
use Rattle.circuit_tables.proofs.folding.merged_rows.Given as goal

abbrev pub invariant-loop-row : goal.invariant-loop-row
invariant-loop-row l = l.made ≡ filter_map (merge_row (dashes_of l.names) l.places) (take l.row-index l.rows)
