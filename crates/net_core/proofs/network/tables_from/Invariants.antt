use Rattle.std.proofs.Common.{◌≡◌, ◌++◌, length}
use Rattle.std.specs.Vec.Iter.{into_iter_items, into_iter_len}
use Rattle.net_core.proofs.network.tables_from.Given as goal

abbrev pub invariant-loop-written : goal.invariant-loop-written
invariant-loop-written g l =
    (l.made ++ into_iter_items l.written-iterator ≡ into_iter_items l.initial.written-iterator)
    × (into_iter_len l.written-iterator ≡ length (into_iter_items l.written-iterator))
