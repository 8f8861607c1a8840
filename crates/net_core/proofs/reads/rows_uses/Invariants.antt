use Rattle.std.proofs.Common.{◌≡◌, ◌≤◌, map, take}
use Rattle.net_core.specs.Tables.{characters_of}
use Rattle.net_core.specs.Reads.{rows_with}
use Rattle.net_core.proofs.reads.rows_uses.Given as goal

abbrev pub invariant-loop-row : goal.invariant-loop-row
invariant-loop-row g l = (l.count ≡ rows_with l.place (map characters_of (map g.R.Row.literals (take l.row-index l.rows)))) × (l.count ≤ l.row-index)
