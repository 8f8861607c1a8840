use Rattle.std.proofs.Common.{take, flat_map}
use Rattle.std.specs.BTreeSet.{contains}
use Rattle.std.specs.Ordering.{nat_cmp}
use Rattle.net_candidates.specs.Spots.{told}
use Rattle.net_candidates.specs.Partners.{is_marked, AreMet}
use Rattle.net_candidates.proofs.partners.partners_of.Given as goal

abbrev pub invariant-loop-literal : goal.invariant-loop-literal
invariant-loop-literal l = AreMet (flat_map (told l.spots) (take l.literal-index l.cube)) (is_marked l.marks l.mark) (contains nat_cmp l.partners)
