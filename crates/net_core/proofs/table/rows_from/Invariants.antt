use Rattle.std.proofs.Common.{◌≡◌, map, take}
use Rattle.net_core.specs.Tables.{places_of}
use Rattle.net_core.proofs.table.rows_from.Given as goal

abbrev pub invariant-loop-characters : goal.invariant-loop-characters
invariant-loop-characters g l = map g.R.Row.literals l.made.items ≡ map places_of (take l.characters-index l.rows)
