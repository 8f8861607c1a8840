use Rattle.std.proofs.Common.{◌≡◌, ℕ, List, [], ◌++◌, map, drop, bytes_eq}
use Rattle.indexmap.specs.IndexSet.{contains}
use Rattle.circuit_model.specs.Names.{has}
use Rattle.circuit_tables.specs.Tidy.{row_text}
use Rattle.circuit_tables.proofs.Tidied.{rows_behind}
use Rattle.net_core.specs.Tables.{characters_of}
use Rattle.net_core.proofs.tidying.rows_once.Given as goal

abbrev pub invariant-loop-row : goal.invariant-loop-row
invariant-loop-row g l =
    (map characters_of (map g.R.Row.literals l.made.items) ++ rows_behind (map characters_of (map g.R.Row.literals l.made.items)) (drop l.row-index (map characters_of (map g.R.Row.literals l.rows)))
    ≡ rows_behind [] (map characters_of (map g.R.Row.literals l.rows)))
    × ((text : List ℕ) → contains bytes_eq l.seen text ≡ has (map row_text (map characters_of (map g.R.Row.literals l.made.items))) text)
