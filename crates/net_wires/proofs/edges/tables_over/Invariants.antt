use Rattle.std.proofs.Common.{◌≡◌, ◌++◌, map, length, bytes_eq}
use Rattle.std.specs.Vec.Iter.{into_iter_items, into_iter_len}
use Rattle.indexmap.specs.IndexMap.{get}
use Rattle.net_wires.specs.Aliases.{edge_of, table_over}
use Rattle.net_wires.proofs.edges.tables_over.Given as goal

abbrev pub invariant-loop-table : goal.invariant-loop-table
invariant-loop-table l = (l.made.items ++ map (table_over (edge_of (get bytes_eq l.edges))) (into_iter_items l.table-iterator)
    ≡ map (table_over (edge_of (get bytes_eq l.edges))) (into_iter_items l.initial.table-iterator))
    × (into_iter_len l.table-iterator ≡ length (into_iter_items l.table-iterator))
