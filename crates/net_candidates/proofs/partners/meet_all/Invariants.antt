use Rattle.std.proofs.Common.{take}
use Rattle.std.specs.BTreeSet.{contains}
use Rattle.std.specs.Ordering.{nat_cmp}
use Rattle.net_candidates.specs.Partners.{is_marked, AreMetNext}
use Rattle.net_candidates.proofs.partners.meet_all.Given as goal

abbrev pub invariant-loop-place : goal.invariant-loop-place
invariant-loop-place l =
    AreMetNext (take l.place-index l.places) (is_marked l.fn.marks l.mark) (is_marked l.marks l.mark) (contains nat_cmp l.fn.partners) (contains nat_cmp l.partners)
