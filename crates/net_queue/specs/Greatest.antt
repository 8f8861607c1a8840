-- Numbers in descending order, as `Reverse` compares them. Source: the project's own.
use Rattle.std.specs.Prelude.{◌≡◌, ℕ}
use Rattle.std.specs.Cmp.{IsTotalOrder, on_total, back_total, nat_cmp_total}
use Rattle.std.specs.Ordering.{nat_cmp}
use Rattle.std.specs.declared.cmp.Ordering.{Ordering}
use Rattle.std.specs.declared.cmp.Reverse.{Reverse}
use Rattle.std.proofs.Common.{sym, ap}
use Rattle.std.proofs.lemmas.Map.Lookups.{CmpEqualImpliesEq, exact_unsigned}

abbrev pub reversed : ℕ → Reverse ℕ
reversed number = record { 0 = number }

abbrev pub greatest_cmp : Reverse ℕ → Reverse ℕ → Ordering
greatest_cmp one other = nat_cmp other.0 one.0

pub greatest_total : IsTotalOrder greatest_cmp
greatest_total = on_total (λ (one : Reverse ℕ). one.0) (back_total nat_cmp_total)

-- what compares equal is the same
pub greatest_exact : CmpEqualImpliesEq greatest_cmp
greatest_exact one other h = ap reversed (sym (exact_unsigned other.0 one.0 h))
