use Rattle.std.proofs.Common.{◌≡◌, ◌++◌, map, length, bytes_eq}
use Rattle.std.specs.Vec.Iter.{into_iter_items, into_iter_len}
use Rattle.indexmap.specs.IndexMap.{get}
use Rattle.net_wires.specs.Aliases.{edge_of}
use Rattle.net_wires.proofs.edges.names_over.Given as goal

abbrev pub invariant-loop-name : goal.invariant-loop-name
invariant-loop-name l = (l.made.items ++ map (λ name. (edge_of (get bytes_eq l.edges) name).name) (into_iter_items l.name-iterator)
    ≡ map (λ name. (edge_of (get bytes_eq l.edges) name).name) (into_iter_items l.initial.name-iterator))
    × (into_iter_len l.name-iterator ≡ length (into_iter_items l.name-iterator))
