use Rattle.std.proofs.Common.{◌≡◌, ◌++◌, map}
use Rattle.net_core.specs.Tables.{characters_of}
use Rattle.net_core.proofs.Narrowed.{columns_from}
use Rattle.net_core.proofs.tidying.used_columns.Given as goal

abbrev pub invariant-loop-place : goal.invariant-loop-place
invariant-loop-place g l =
    l.places.items ++ columns_from l.inputs (map characters_of (map g.R.Row.literals l.rows)) l.place ≡ columns_from l.inputs (map characters_of (map g.R.Row.literals l.rows)) 0
