use Rattle.std.proofs.Common.{◌≡◌, map, take}
use Rattle.net_core.specs.Tables.{characters_of}
use Rattle.net_core.proofs.table.all_characters.Given as goal

abbrev pub invariant-loop-row : goal.invariant-loop-row
invariant-loop-row g l = l.made.items ≡ map characters_of (map g.R.Row.literals (take l.row-index l.rows))
