-- Divisors and their covers.
use Rattle.std.proofs.Common.{◌≡◌, ◌+◌, ℕ, Bool, true, false, cond, List, [], ◌∷◌, length, Ordering, Less, Equal, Greater, is_lt, refl, sym, ap, ap₂, ◌∙◌, arith}
use Rattle.std.specs.Ordering.{ordering_reverse}
use Rattle.std.specs.Cmp.Lexicographic.{nat_list_cmp_total}
use Rattle.std.proofs.lemmas.Bool.{false≢true}
use Rattle.cover_names.specs.Literals.{put_by, put_in, sorted}
use Rattle.net_candidates.specs.Candidates.{literals_in}
use Rattle.net_gains.specs.CodedGains.{numbers_cmp, is_one}
use Rattle.net_gains.specs.Divisors.{cover_with, Sums}
use Rattle.net_gains.specs.declared.divisor.Divisor.{Divisor}

pub two_sorted : (first second : List ℕ) → sorted numbers_cmp (first ∷ second ∷ []) ≡ put_by (numbers_cmp first second) first second [] (first ∷ [])
unfolding sorted put_in
two_sorted first second = refl

pub cover_two : (first second : List ℕ) → is_one second ≡ false → cover_with first second ≡ first ∷ second ∷ []
cover_two first second h = ap (λ (b : Bool). cond b (first ∷ []) (first ∷ second ∷ [])) h

pub literals_with : (first second : List ℕ) → literals_in (cover_with first second) ≡ length first + length second
literals_with first [] = omega arith
literals_with first (number ∷ second) = omega arith

-- two cubes that differ, the lesser one first
pub sum_lesser : (first second : List ℕ) → numbers_cmp first second ≡ Less → is_one second ≡ false → cover_with first second ≡ sorted numbers_cmp (first ∷ second ∷ [])
sum_lesser first second less h = cover_two first second h ∙ (sym (ap (λ (o : Ordering). put_by o first second [] (first ∷ [])) less) ∙ sym (two_sorted first second))

pub sum_greater : (first second : List ℕ) → numbers_cmp first second ≡ Greater → is_one first ≡ false → cover_with second first ≡ sorted numbers_cmp (first ∷ second ∷ [])
sum_greater first second greater h = cover_two second first h ∙ (sym (ap (λ (o : Ordering). put_by o first second [] (first ∷ [])) greater) ∙ sym (two_sorted first second))

-- if a test says that the second is less
pub sums_swapped : (first second : List ℕ) → is_lt (numbers_cmp second first) ≡ true → (divisor : Divisor) → divisor.first ≡ second → divisor.second ≡ first → Sums first second divisor
sums_swapped first second less divisor one other = λ some more apart.
    ap₂ cover_with one other ∙ sum_greater first second (nat_list_cmp_total.antisymm first second ∙ ap ordering_reverse (is_less (numbers_cmp second first) less)) some
  where
    is_less : (o : Ordering) → is_lt o ≡ true → o ≡ Less
    is_less Less h = refl
    is_less Equal h = absurd (false≢true h)
    is_less Greater h = absurd (false≢true h)

pub sums_kept : (first second : List ℕ) → is_lt (numbers_cmp second first) ≡ false → (divisor : Divisor) → divisor.first ≡ first → divisor.second ≡ second → Sums first second divisor
sums_kept first second not_less divisor one other = λ some more apart.
    ap₂ cover_with one other ∙ cases (numbers_cmp first second) refl (ap is_lt (nat_list_cmp_total.antisymm second first)) apart more
  where
    cases : (o : Ordering) → numbers_cmp first second ≡ o → is_lt (numbers_cmp second first) ≡ is_lt (ordering_reverse (numbers_cmp first second)) → (numbers_cmp first second ≡ Equal → ⊥) → is_one second ≡ false
        → cover_with first second ≡ sorted numbers_cmp (first ∷ second ∷ [])
    cases Less e turned apart more = sum_lesser first second e more
    cases Equal e turned apart more = absurd (apart e)
    cases Greater e turned apart more = absurd (false≢true (sym not_less ∙ (turned ∙ ap (λ (o : Ordering). is_lt (ordering_reverse o)) e)))
