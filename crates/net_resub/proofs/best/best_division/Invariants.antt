use Rattle.std.proofs.Common.{◌≡◌, ℕ, true, Bor}
use Rattle.std.specs.List.{AllByRecursion}
use Rattle.std.specs.declared.cmp.Reverse.{Reverse}
use Rattle.net_resub.specs.Best.{is_led}
use Rattle.net_resub.specs.declared.divisions.Division.{Division}
use Rattle.net_resub.proofs.best.best_division.Given as goal

abbrev pub invariant-loop-ranked : goal.invariant-loop-ranked
invariant-loop-ranked g l = AllByRecursion (λ (ranked : Bor (Reverse ℕ × Division)). is_led l.work.slots ranked.now.1.by ranked.now.1.place ≡ true) l.yielded
