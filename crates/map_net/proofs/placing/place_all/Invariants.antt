use Rattle.std.specs.Iterator.Adapters.{zip_first, zip_second}
use Rattle.std.specs.Slice.Iter.{iter_rest}
use Rattle.map_net.proofs.Placements.{CoversPlaced}
use Rattle.map_net.proofs.placing.place_all.Given as goal

abbrev pub invariant-loop-root : goal.invariant-loop-root
invariant-loop-root l =
    CoversPlaced l.cells l.leaves l.used.keys l.roots l.covers
    (iter_rest (zip_first l.root-iterator)) (iter_rest (zip_second l.root-iterator)) l.start
    l.gates
