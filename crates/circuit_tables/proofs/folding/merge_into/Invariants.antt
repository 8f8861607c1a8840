use Rattle.std.proofs.Common.{◌≡◌, drop}
use Rattle.circuit_tables.specs.Listing.{merge_row}
use Rattle.circuit_tables.proofs.folding.merge_into.Given as goal

abbrev pub invariant-loop-i : goal.invariant-loop-i
invariant-loop-i l = merge_row l.fn.out.items l.places l.row ≡ merge_row l.out.items (drop l.i l.places) (drop l.i l.row)
