-- The laws of the order of divisors. No public clause needs them.
use Rattle.std.specs.Prelude.{◌≡◌, ℕ, ◌&&◌, Bool, List, nat_eq}
use Rattle.std.proofs.Common.{ap}
use Rattle.std.specs.Cmp.{IsTotalOrder, IsPartialOrder, IsEquivalence, IsPartialEquivalence, po, on_total, then_total, both_tied, on_equiv, and_equiv, nat_eq_equiv, partial_equiv_from_equiv}
use Rattle.std.specs.Cmp.Lexicographic.{pointwise, lists_equiv, nat_list_cmp_total, texts_ties}
use Rattle.std.specs.Ordering.{eq_by_cmp, as_partial_cmp}
use Rattle.std.proofs.lemmas.Map.Lookups.{CmpEqualImpliesEq, exact_bytes, exact_pairs}
use Rattle.net_gains.specs.CodedGains.{numbers_cmp}
use Rattle.net_gains.specs.Divisors.{divisor_cmp}
use Rattle.net_gains.specs.declared.divisor.Divisor.{Divisor}

-- divisors of the same cubes
abbrev pub divisor_eq : Divisor → Divisor → Bool
divisor_eq one other = pointwise nat_eq one.first other.first && pointwise nat_eq one.second other.second

pub divisor_total : IsTotalOrder divisor_cmp
divisor_total = then_total (on_total (λ (divisor : Divisor). divisor.first) nat_list_cmp_total) (on_total (λ (divisor : Divisor). divisor.second) nat_list_cmp_total)

pub divisor_ties : (one other : Divisor) → divisor_eq one other ≡ eq_by_cmp divisor_cmp one other
divisor_ties one other =
    both_tied (pointwise nat_eq one.first other.first) (pointwise nat_eq one.second other.second) (numbers_cmp one.first other.first) (numbers_cmp one.second other.second)
    (texts_ties one.first other.first) (texts_ties one.second other.second)

pub divisor_partial : IsPartialOrder divisor_eq (as_partial_cmp divisor_cmp)
divisor_partial = po divisor_total divisor_ties

pub divisors_equiv : IsEquivalence divisor_eq
divisors_equiv = and_equiv (on_equiv (λ (divisor : Divisor). divisor.first) (lists_equiv nat_eq_equiv)) (on_equiv (λ (divisor : Divisor). divisor.second) (lists_equiv nat_eq_equiv))

pub divisors_per : IsPartialEquivalence divisor_eq
divisors_per = partial_equiv_from_equiv divisors_equiv

-- divisors that compare equal are the same
pub divisors_exact : CmpEqualImpliesEq divisor_cmp
divisors_exact one other h =
    ap (λ (cubes : List ℕ × List ℕ). let divisor : Divisor = record { first = cubes.0; second = cubes.1 } in divisor)
    (exact_pairs numbers_cmp numbers_cmp exact_bytes exact_bytes (one.first, one.second) (other.first, other.second) h)
