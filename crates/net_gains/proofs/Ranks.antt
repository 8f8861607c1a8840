-- Divisors that are the same, the order of their covers, and what a rank says of a total.
use Rattle.std.proofs.Common.{Less, Equal, Greater, ◌≡◌, ℕ, ◌-◌, ◌<◌, Bool, true, false, cond, Option, Some, None, List, [], ◌∷◌, Ordering, is_eq, ltb, ltb-true, refl, sym, ap, ◌∙◌, arith}
use Rattle.std.specs.Option.{option_map_or}
use Rattle.std.specs.Ordering.{ordering_reverse, ordering_then}
use Rattle.std.specs.Prelude.{unwrap_or}
use Rattle.std.specs.declared.cmp.Reverse.{Reverse}
use Rattle.std.proofs.lemmas.Bool.{false≢true, lt-ltb}
use Rattle.std.proofs.lemmas.Option.{none-some, same_Some}
use Rattle.net_queue.specs.Greatest.{reversed}
use Rattle.net_candidates.specs.Candidates.{literals_in}
use Rattle.net_gains.specs.Divisors.{cover_with, cover_of, divisor_cmp}
use Rattle.net_gains.specs.CodedGains.{numbers_cmp, lists_cmp}
use Rattle.net_gains.specs.Orders.{divisor_eq, divisor_ties, divisor_total, divisors_exact}
use Rattle.net_gains.specs.Totals.{rank_of}
use Rattle.net_gains.specs.declared.divisor.Divisor.{Divisor}

pub is_equal : (o : Ordering) → is_eq o ≡ true → o ≡ Equal
is_equal Less h = absurd (false≢true h)
is_equal Equal h = refl
is_equal Greater h = absurd (false≢true h)

-- equal divisors are the same
pub divisor_same : (one other : Divisor) → divisor_eq one other ≡ true → one ≡ other
divisor_same one other h = divisors_exact one other (is_equal (divisor_cmp one other) (sym (divisor_ties one other) ∙ h))

pub divisor_swapped : (one other : Divisor) → divisor_eq one other ≡ divisor_eq other one
divisor_swapped one other = divisor_ties one other ∙ (ap is_eq (divisor_total.antisymm one other) ∙ (turned (divisor_cmp other one) ∙ sym (divisor_ties other one)))
  where
    turned : (o : Ordering) → is_eq (ordering_reverse o) ≡ is_eq o
    turned Less = refl
    turned Equal = refl
    turned Greater = refl

-- covers of divisors are in the divisors' order
pub covers_cmp : (a b c d : List ℕ) → lists_cmp (cover_with a b) (cover_with c d) ≡ ordering_then (numbers_cmp a c) (numbers_cmp b d)
covers_cmp a [] c [] = refl
covers_cmp a [] c (n ∷ d) = refl
covers_cmp a (n ∷ b) c [] = refl
covers_cmp a (n ∷ b) c (m ∷ d) = ap (ordering_then (numbers_cmp a c)) (ends (numbers_cmp (n ∷ b) (m ∷ d)))
  where
    ends : (o : Ordering) → ordering_then o Equal ≡ o
    ends Less = refl
    ends Equal = refl
    ends Greater = refl

-- the rank of a total that is more than the literals, and the total of a rank
pub rank_here : (divisor : Divisor) (known : Option ℕ) → literals_in (cover_of divisor) < unwrap_or known 0
    → option_map_or (rank_of divisor) known None ≡ Some (reversed (unwrap_or known 0 - literals_in (cover_of divisor)))
rank_here divisor None less = absurd (omega (arith, less))
rank_here divisor (Some total) less =
    ap (λ (b : Bool). cond {A = Option (Reverse ℕ)} b (Some (reversed (total - literals_in (cover_of divisor)))) None) (lt-ltb (literals_in (cover_of divisor)) total less)

pub rank_told : (divisor : Divisor) (known : Option ℕ) (rank : Reverse ℕ) → option_map_or (rank_of divisor) known None ≡ Some rank
    → (literals_in (cover_of divisor) < unwrap_or known 0) × (unwrap_or known 0 - literals_in (cover_of divisor) ≡ rank.0)
rank_told divisor None rank h = absurd (none-some rank h)
rank_told divisor (Some total) rank h = cases (ltb (literals_in (cover_of divisor)) total) refl h
  where
    cases : (b : Bool) → ltb (literals_in (cover_of divisor)) total ≡ b → cond {A = Option (Reverse ℕ)} b (Some (reversed (total - literals_in (cover_of divisor)))) None ≡ Some rank
        → (literals_in (cover_of divisor) < total) × (total - literals_in (cover_of divisor) ≡ rank.0)
    cases true e k = (ltb-true (literals_in (cover_of divisor)) total e, ap (λ (one : Reverse ℕ). one.0) (same_Some (reversed (total - literals_in (cover_of divisor))) rank k))
    cases false e k = absurd (none-some rank k)
