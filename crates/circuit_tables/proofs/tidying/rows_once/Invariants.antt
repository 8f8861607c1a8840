use Rattle.std.proofs.Common.{◌≡◌, ℕ, List, [], ◌++◌, map, bytes_eq, length}
use Rattle.std.specs.Vec.Iter.{into_iter_items, into_iter_len}
use Rattle.indexmap.specs.IndexSet.{contains}
use Rattle.circuit_model.specs.Names.{has}
use Rattle.circuit_tables.specs.Tidy.{row_text}
use Rattle.circuit_tables.proofs.Tidied.{rows_behind}
use Rattle.circuit_tables.proofs.tidying.rows_once.Given as goal

abbrev pub invariant-loop-row : goal.invariant-loop-row
invariant-loop-row l =
    (l.made ++ rows_behind l.made (into_iter_items l.row-iterator) ≡ rows_behind [] (into_iter_items l.initial.row-iterator))
    × ((text : List ℕ) → contains bytes_eq l.seen text ≡ has (map row_text l.made) text)
    × (into_iter_len l.row-iterator ≡ length (into_iter_items l.row-iterator))
