use Rattle.std.proofs.Common.{ℕ, Bor}
use Rattle.std.specs.List.{AllByRecursion}
use Rattle.net_candidates.specs.Candidates.{IsCandidate}
use Rattle.cover_names.specs.Literals.{NamedCover}
use Rattle.net_work.specs.Placed.{standing}
use Rattle.std.specs.declared.cmp.Reverse.{Reverse}
use Rattle.net_savings.proofs.saved.first_saved.Given as goal

abbrev pub invariant-loop-ranked : goal.invariant-loop-ranked
invariant-loop-ranked g l = AllByRecursion (λ (ranked : Bor (Reverse ℕ × NamedCover)). IsCandidate l.rule (standing l.work.slots) ranked.now.1 → ⊥) l.yielded
