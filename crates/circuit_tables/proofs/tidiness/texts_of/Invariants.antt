use Rattle.std.proofs.Common.{◌≡◌, map, take}
use Rattle.circuit_tables.specs.Tidy.{row_text}
use Rattle.circuit_tables.proofs.tidiness.texts_of.Given as goal

abbrev pub invariant-loop-row : goal.invariant-loop-row
invariant-loop-row l = l.made.items ≡ map row_text (take l.row-index l.rows)
