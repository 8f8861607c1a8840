use Rattle.std.proofs.Common.{◌≡◌, ◌++◌, length}
use Rattle.net_candidates.specs.Pairs.{made_by_pairs}
use Rattle.net_candidates.proofs.pairs.add_pairs.Given as goal

abbrev pub invariant-loop-one : goal.invariant-loop-one
invariant-loop-one g l = l.made.items ++ made_by_pairs g.P.Pairing.gives l.rest ≡ l.fn.made.items ++ made_by_pairs g.P.Pairing.gives l.items

abbrev pub decreases-loop-one : goal.decreases-loop-one
decreases-loop-one g l = length l.rest
