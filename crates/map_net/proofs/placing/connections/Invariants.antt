use Rattle.std.proofs.Common.{◌≡◌, ◌++◌, map}
use Rattle.std.specs.Iterator.Adapters.{zip_first, zip_second}
use Rattle.std.specs.Slice.Iter.{iter_rest}
use Rattle.map_net.specs.Mapping.{name_of, connected}
use Rattle.map_net.proofs.placing.connections.Given as goal

abbrev pub invariant-loop-pin : goal.invariant-loop-pin
invariant-loop-pin l =
    l.made ++ connected (iter_rest (zip_first l.pin-iterator))
    (map (name_of l.leaves l.driven) (iter_rest (zip_second l.pin-iterator)))
    ≡ connected l.pins (map (name_of l.leaves l.driven) l.signals)
