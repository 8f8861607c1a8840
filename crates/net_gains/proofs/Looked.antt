-- What a search among sorted names finds, and the literal of a number.
use Rattle.std.proofs.Common.{◌≡◌, ◌⊎◌, inl, inr, ltb, ltb-true, ltb-false, ℕ, ◌+◌, ◌*◌, ◌/◌, ◌%◌, ◌<◌, ◌≤◌, zero, suc, Bool, true, false, List, [], length, get_or, nat_eq, Less, Equal, Greater, is_lt, is_eq, refl, sym, ap, ap₂, ◌∙◌, subst, arith, lt-ltb, true≢false}
use Rattle.std.specs.List.{HoldsAt}
use Rattle.std.specs.List.Sorted.{IsNonDecreasingBy, IsPartitionPoint, IsSortedBy}
use Rattle.std.specs.Ordering.{ordering_index, ordering_reverse}
use Rattle.std.proofs.lemmas.Bool.{false_from_ne_true}
use Rattle.std.proofs.lemmas.Cmp.{tied_itself}
use Rattle.std.proofs.lemmas.List.Sorted.{searchable_from_sorted}
use Rattle.std.proofs.lemmas.Map.Keys.{Less-from_sorted}
use Rattle.circuit_model.specs.Names.{has}
use Rattle.alg_tables.proofs.Divided.{name_order}
use Rattle.circuit_tables.proofs.Once.{place_within}
use Rattle.net_gains.specs.Codes.{name_cmp, AreRising, place_of, bit_number, code_of, is_code}
use Rattle.net_gains.proofs.Places.{name_at_place, has_at_place, place_of_name}

pub found_at : (names : List (List ℕ)) (name : List ℕ) (place : ℕ) → AreRising names → place < length names → HoldsAt (λ known. name_cmp known name ≡ Equal) names place
    → (has names name ≡ true) × (place ≡ place_of names name)
found_at names name place rising h at =
    let e : get_or names place [] ≡ name = name_order.same (get_or names place []) name (at []) in (
      subst (λ (other : List ℕ). has names other ≡ true) e (has_at_place names place [] h),
      subst (λ (other : List ℕ). place ≡ place_of names other) e (sym (place_of_name names rising place h)),
    )

sides : (m n : ℕ) → (m < n) ⊎ (n ≤ m)
sides m n = cases (ltb m n) refl
  where
    cases : (b : Bool) → ltb m n ≡ b → (m < n) ⊎ (n ≤ m)
    cases true e = inl (ltb-true m n e)
    cases false e = inr (ltb-false m n e)

rises_to : (names : List (List ℕ)) (name : List ℕ) → AreRising names → IsNonDecreasingBy (λ known. ordering_index (name_cmp known name)) names
rises_to names name rising = searchable_from_sorted name_order.total (λ known. known) names name in_rising_order
  where
    in_rising_order : IsSortedBy (λ one other. is_lt (name_cmp one other)) names
    in_rising_order k d low high =
        ap is_lt (name_order.total.antisymm (get_or names (k + 1) d) (get_or names k d) ∙ ap ordering_reverse (Less-from_sorted name_cmp names k (k + 1) d rising (omega arith) high))

pub missing_at : (names : List (List ℕ)) (name : List ℕ) (place : ℕ) → AreRising names
    → (IsNonDecreasingBy (λ known. ordering_index (name_cmp known name)) names → IsPartitionPoint (λ known. name_cmp known name ≡ Less) (λ known. name_cmp known name ≡ Greater) names place)
    → has names name ≡ false
missing_at names name place rising parts = false_from_ne_true (has names name) (λ h. none h (parts (rises_to names name rising)))
  where
    none : has names name ≡ true → IsPartitionPoint (λ known. name_cmp known name ≡ Less) (λ known. name_cmp known name ≡ Greater) names place → ⊥
    none h both =
        let same : name_cmp (get_or names (place_of names name) []) name ≡ Equal =
        ap (λ (known : List ℕ). name_cmp known name) (name_at_place names name [] h) ∙ tied_itself name_order.total name
        in elim (sides (place_of names name) place) as (λ _. ⊥) [
          | inl lt ↦ true≢false (sym (ap is_eq same) ∙ ap is_eq (both.0 (place_of names name) [] (omega arith) lt))
          | inr le ↦ true≢false (sym (ap is_eq same) ∙ ap is_eq (both.1 (place_of names name) [] le (place_within names name h)))
        ]

halves : (number : ℕ) → 2 * (number / 2) + number % 2 ≡ number
halves number = omega arith

bit_back : (n : ℕ) → n < 2 → bit_number (nat_eq n 1) ≡ n
bit_back zero h = refl
bit_back (suc zero) h = refl
bit_back (suc (suc n)) h = absurd (omega arith)

pub literal_back : (names : List (List ℕ)) → AreRising names → (number : ℕ) (name : List ℕ) → number / 2 < length names → get_or names (number / 2) [] ≡ name
    → (is_code names number ≡ true) × (has names name ≡ true) × (code_of names (record { name = name; bit = nat_eq (number % 2) 1 }) ≡ number)
unfolding code_of
literal_back names rising number name h e = (
  lt-ltb number (2 * length names) (omega arith),
  subst (λ (other : List ℕ). has names other ≡ true) e (has_at_place names (number / 2) [] h),
  ap₂ (λ (m n : ℕ). 2 * m + n) (ap (place_of names) (sym e) ∙ place_of_name names rising (number / 2) h) (bit_back (number % 2) (omega arith)) ∙ halves number,
)
