-- Indices in rising order: those less than a given one come before it.
use Rattle.std.proofs.Common.{◌≡◌, ℕ, ◌<◌, ◌≤◌, zero, suc, Bool, true, false, ◌||◌, ◌==◌, List, [], ◌∷◌, ◌++◌, take, length, get_or, refl, sym, ap, ◌∙◌, arith, inl, inr, eqb-true, eq-eqb}
use Rattle.std.specs.List.Sorted.{IsNonDecreasing}
use Rattle.std.proofs.lemmas.Bool.{false≢true, or_left, or_right, cases_lt}
use Rattle.std.proofs.lemmas.List.Folds.{list_any-append}
use Rattle.net_readers.specs.Fanouts.{is_in}

index_of : (places : List ℕ) (at : ℕ) → is_in places at ≡ true → (i : ℕ) × (i < length places) × ((d : ℕ) → get_or places i d ≡ at)
index_of [] at h = absurd (false≢true h)
index_of (place ∷ places) at h = cases (place == at) refl h (index_of places at)
  where
    cases : (b : Bool) → (place == at) ≡ b → (b || is_in places at) ≡ true → (is_in places at ≡ true → (i : ℕ) × (i < length places) × ((d : ℕ) → get_or places i d ≡ at))
        → (i : ℕ) × (i < suc (length places)) × ((d : ℕ) → get_or (place ∷ places) i d ≡ at)
    cases true e k rest = (0, omega arith, λ d. eqb-true place at e)
    cases false e k rest = let (i, lt, is) = rest k in (suc i, omega (arith, lt), is)

in_front : (places : List ℕ) (i j at : ℕ) → j < i → j < length places → ((d : ℕ) → get_or places j d ≡ at) → is_in (take i places) at ≡ true
in_front [] i j at before long is = absurd (omega (arith, long))
in_front (place ∷ places) zero j at before long is = absurd (omega (arith, before))
in_front (place ∷ places) (suc i) zero at before long is = or_left (place == at) (is_in (take i places) at) (eq-eqb place at (is 0))
in_front (place ∷ places) (suc i) (suc j) at before long is = or_right (place == at) (is_in (take i places) at) (in_front places i j at (omega (arith, before)) (omega (arith, long)) is)

pub before_done : (places : List ℕ) (i place at : ℕ) → IsNonDecreasing places → i < length places → place ≡ get_or places i 0 → is_in places at ≡ true → at < place → is_in (take i places) at ≡ true
before_done places i place at rising long here among lt =
    let (j, short, is) = index_of places at among in
    elim (cases_lt j i) as (λ _. is_in (take i places) at ≡ true) [
      | inl front ↦ in_front places i j at front short is
      | inr behind ↦ absurd (let up : get_or places i 0 ≤ get_or places j 0 = rising i j 0 behind short in let at_j : get_or places j 0 ≡ at = is 0 in omega (arith, up, at_j, here, lt))
    ]

-- one more index
pub in_more : (done : List ℕ) (place at : ℕ) → is_in (done ++ place ∷ []) at ≡ (is_in done at || (place == at))
in_more done place at = list_any-append (λ (other : ℕ). other == at) done (place ∷ []) ∙ ap (λ (b : Bool). is_in done at || b) (or_nothing (place == at))
  where
    or_nothing : (b : Bool) → (b || false) ≡ b
    or_nothing true = refl
    or_nothing false = refl

-- an item of a list of indices
pub in_at : (places : List ℕ) (i place : ℕ) → i < length places → place ≡ get_or places i 0 → is_in places place ≡ true
in_at [] i place lt is = absurd (omega (arith, lt))
in_at (first ∷ places) zero place lt is = or_left (first == place) (is_in places place) (eq-eqb first place (sym is))
in_at (first ∷ places) (suc i) place lt is = or_right (first == place) (is_in places place) (in_at places i place (omega (arith, lt)) is)

-- what is not among indices is not among the first of them
pub not_in_take : (places : List ℕ) (i at : ℕ) → is_in places at ≡ false → is_in (take i places) at ≡ false
not_in_take [] zero at h = refl
not_in_take [] (suc i) at h = refl
not_in_take (place ∷ places) zero at h = refl
not_in_take (place ∷ places) (suc i) at h = cases (place == at) h (not_in_take places i at)
  where
    cases : (b : Bool) → (b || is_in places at) ≡ false → (is_in places at ≡ false → is_in (take i places) at ≡ false) → (b || is_in (take i places) at) ≡ false
    cases true k rest = k
    cases false k rest = rest k
