use Rattle.std.proofs.Common.{◌≡◌, ◌++◌, drop}
use Rattle.std.specs.List.{filter_map}
use Rattle.net_candidates.proofs.pairs.add_with.Given as goal

abbrev pub invariant-loop-other : goal.invariant-loop-other
invariant-loop-other g l =
    l.made.items ++ filter_map (g.P.Pairing.gives l.one) (drop l.other-index l.others) ≡ l.fn.made.items ++ filter_map (g.P.Pairing.gives l.one) l.others
