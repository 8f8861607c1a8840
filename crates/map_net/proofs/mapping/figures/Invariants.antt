use Rattle.std.proofs.Common.{◌≡◌, ◌++◌}
use Rattle.std.specs.Iterator.Adapters.{zip_first, zip_second}
use Rattle.std.specs.Slice.Iter.{iter_rest}
use Rattle.map_net.specs.Mapping.{figures_of}
use Rattle.map_net.proofs.mapping.figures.Given as goal

abbrev pub invariant-loop-root : goal.invariant-loop-root
invariant-loop-root l =
    l.made ++ figures_of (iter_rest (zip_first l.root-iterator))
    (iter_rest (zip_second l.root-iterator)) ≡ figures_of l.roots l.covers
