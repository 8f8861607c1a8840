use Rattle.std.proofs.Common.{◌≡◌, ◌++◌, drop, flat_map}
use Rattle.net_candidates.specs.Pairs.{made_by_pairs, product_of}
use Rattle.net_candidates.proofs.own.add_products.Given as goal

abbrev pub invariant-loop-cube : goal.invariant-loop-cube
invariant-loop-cube l =
    l.made.items ++ flat_map (made_by_pairs product_of) (drop l.cube-index l.cubes) ≡ l.fn.made.items ++ flat_map (made_by_pairs product_of) l.cubes
