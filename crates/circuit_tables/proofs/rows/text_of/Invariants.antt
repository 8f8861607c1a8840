use Rattle.std.proofs.Common.{◌≡◌, take}
use Rattle.circuit_tables.specs.Tidy.{row_text}
use Rattle.circuit_tables.proofs.rows.text_of.Given as goal

abbrev pub invariant-loop-place : goal.invariant-loop-place
invariant-loop-place l = l.made ≡ row_text (take l.place-index l.row)
