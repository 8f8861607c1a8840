use Rattle.std.proofs.Common.{◌≡◌, take}
use Rattle.circuit_tables.specs.Tidy.{row_text}
use Rattle.net_core.specs.Tables.{characters_of}
use Rattle.net_core.proofs.tidying.text_of.Given as goal

abbrev pub invariant-loop-place : goal.invariant-loop-place
invariant-loop-place g l = l.made ≡ row_text (characters_of (take l.place (g.R.Row.literals l.row)))
