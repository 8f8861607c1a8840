use Rattle.std.proofs.Common.{◌≡◌, ◌++◌}
use Rattle.std.specs.Iterator.Adapters.{zip_first, zip_second}
use Rattle.std.specs.Slice.Iter.{iter_rest}
use Rattle.map_net.specs.Working.{left_from}
use Rattle.map_net.proofs.left.tables_left.Given as goal

abbrev pub invariant-loop-fate : goal.invariant-loop-fate
invariant-loop-fate l =
    l.left ++ left_from l.leaves (iter_rest (zip_first l.fate-iterator))
    (iter_rest (zip_second l.fate-iterator)) l.rest
    ≡ left_from l.leaves l.fates l.tables l.covers
