use Rattle.std.proofs.Common.{◌≡◌, ◌++◌, map, length}
use Rattle.std.specs.Vec.Iter.{into_iter_items, into_iter_len}
use Rattle.circuit_tables.specs.Folding.{folded}
use Rattle.blif_lines.proofs.settling.folded_tables.Given as goal

abbrev pub invariant-loop-table : goal.invariant-loop-table
invariant-loop-table l = (l.less ++ map folded (into_iter_items l.table-iterator) ≡ map folded (into_iter_items l.initial.table-iterator))
    × (into_iter_len l.table-iterator ≡ length (into_iter_items l.table-iterator))
