use Rattle.std.proofs.Common.{◌&&◌, not, Bool, take}
use Rattle.net_resub.specs.Divisions.{Savings, is_among, HasJust}
use Rattle.net_resub.specs.declared.divisions.Division.{Division}
use Rattle.net_resub.proofs.kept.take_all.Given as goal

abbrev pub invariant-loop-division : goal.invariant-loop-division
invariant-loop-division l =
    (test : Division → Bool) (savings : Savings) → HasJust test savings l.fn.divisions
    → HasJust (λ division. test division && not (is_among (take l.division-index l.gone) division)) savings l.divisions
