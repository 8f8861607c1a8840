use Rattle.std.proofs.Common.{sym, ap, ap₂, ◌∙◌, is_lt, refl}
use Rattle.net_gains.specs.CodedGains.{numbers_cmp}
use Rattle.net_gains.proofs.Divisors.{sums_swapped, sums_kept}
use Rattle.net_gains.proofs.divisor.Divisor.of_sum.Goals as goal

pub returns-then-is_lt : goal.returns-then-is_lt
returns-then-is_lt c =
    sums_swapped c.args.first c.args.second
    (ap is_lt (ap₂ numbers_cmp (sym c.as_slice.ensures) (sym c.as_slice-2.ensures) ∙ sym c.compared.ensures) ∙ (sym c.is_lt.ensures ∙ c.if-is_lt.true)) (record { first = c.args.second; second = c.args.first }) refl refl

pub returns-else-is_lt : goal.returns-else-is_lt
returns-else-is_lt c =
    sums_kept c.args.first c.args.second
    (ap is_lt (ap₂ numbers_cmp (sym c.as_slice.ensures) (sym c.as_slice-2.ensures) ∙ sym c.compared.ensures) ∙ (sym c.is_lt.ensures ∙ c.if-is_lt.false)) (record { first = c.args.first; second = c.args.second }) refl refl
