use Rattle.std.proofs.Common.{◌≡◌, take}
use Rattle.net_core.specs.Tables.{characters_of}
use Rattle.net_core.proofs.table.characters_from.Given as goal

abbrev pub invariant-loop-place : goal.invariant-loop-place
invariant-loop-place g l = l.made ≡ characters_of (take l.place (g.R.Row.literals l.row))
