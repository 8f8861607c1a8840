use Rattle.std.proofs.Common.{◌≡◌, None, ◌++◌, take, drop, replicate, length}
use Rattle.net_core.specs.Tables.{places_of}
use Rattle.net_core.proofs.table.row_from.Given as goal

abbrev pub invariant-loop-place : goal.invariant-loop-place
invariant-loop-place g l =
    g.R.Row.literals l.row ≡ take l.place (places_of l.characters) ++ drop l.place (replicate (length l.characters) None)
