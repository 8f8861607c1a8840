use Rattle.std.proofs.Common.{◌||◌, Bool, take}
use Rattle.net_resub.specs.Divisions.{is_among, HasJust}
use Rattle.net_resub.specs.Pairs.{saving_at}
use Rattle.net_resub.specs.declared.divisions.Division.{Division}
use Rattle.net_resub.proofs.kept.put_all.Given as goal

abbrev pub invariant-loop-division : goal.invariant-loop-division
invariant-loop-division g l =
    (test : Division → Bool) → HasJust test (saving_at l.work.slots) l.fn.divisions
    → HasJust (λ division. test division || is_among (take l.division-index l.come) division) (saving_at l.work.slots) l.divisions
