use Rattle.std.proofs.Common.{ℕ, Bor}
use Rattle.std.specs.List.{AllByRecursion}
use Rattle.std.specs.declared.cmp.Reverse.{Reverse}
use Rattle.cover_names.specs.Literals.{NamedCover}
use Rattle.net_gains.specs.Divisors.{cover_of}
use Rattle.net_gains.specs.Numbers.{DoesPass}
use Rattle.net_gains.specs.declared.divisor.Divisor.{Divisor}
use Rattle.net_gains.proofs.kept.DivisorGains.first.Given as goal

abbrev pub invariant-loop-ranked : goal.invariant-loop-ranked
invariant-loop-ranked g l =
    AllByRecursion (λ (ranked : Bor (Reverse ℕ × Divisor)). (cover : NamedCover) × DoesPass (g.T.Trial.Passes l.trial) l.self-inside.codes (cover_of ranked.now.1) cover → ⊥) l.yielded
