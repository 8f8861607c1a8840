use Rattle.std.specs.Iterator.Adapters.{zip_first, zip_second}
use Rattle.std.specs.Slice.Iter.{iter_rest}
use Rattle.map_net.specs.Mapping.{name_of}
use Rattle.map_net.proofs.Placements.{GatesPlaced}
use Rattle.map_net.proofs.placing.place_gates.Given as goal

abbrev pub invariant-loop-gate : goal.invariant-loop-gate
invariant-loop-gate l =
    GatesPlaced l.library (name_of l.leaves l.driven) l.cover l.driven
    (iter_rest (zip_first l.gate-iterator)) (iter_rest (zip_second l.gate-iterator)) l.fn.gates
    l.gates
