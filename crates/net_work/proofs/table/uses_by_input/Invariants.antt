use Rattle.std.proofs.Common.{◌≡◌, map, take}
use Rattle.net_core.specs.Tables.{characters_of}
use Rattle.net_work.specs.Uses.{uses_from}
use Rattle.net_work.proofs.table.uses_by_input.Given as goal

abbrev pub invariant-loop-place : goal.invariant-loop-place
invariant-loop-place g l = l.numbers.items ≡ uses_from 0 (take l.place l.table.inputs) (map characters_of (map g.R.Row.literals l.rows))
