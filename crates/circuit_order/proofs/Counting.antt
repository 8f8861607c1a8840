-- Counts at indices, and the item at an index of the first items, as far as a loop has come.
use Rattle.std.proofs.Common.{◌≡◌, ℕ, zero, suc, ◌+◌, ◌-◌, ◌<◌, ◌≤◌, ◌==◌, Bool, cond, Some, None, List, [], ◌∷◌, length, take, get_or, set, slice_get, refl, sym, ap, ◌∙◌, subst, inl, inr, arith, eq-eqb, ne_eqb}
use Rattle.std.proofs.lemmas.Bool.{cases_lt, cases_eq}
use Rattle.std.proofs.lemmas.List.{get_or_past, get_or-set_same, get_or-set_other}
use Rattle.std.proofs.lemmas.List.Sums.{sum_by_more, sum_by_more_le}
use Rattle.circuit_order.specs.Places.{times}

-- how often an index occurs among the first ones, and one more
pub times_more : (i : ℕ) (places : List ℕ) (k place : ℕ) → k < length places → place ≡ get_or places k 0 → times i (take (k + 1) places) ≡ times i (take k places) + cond {A = ℕ} (place == i) 1 0
times_more i places k place lt e = sum_by_more (λ x. cond {A = ℕ} (x == i) 1 0) places k 0 lt ∙ ap (λ x. times i (take k places) + cond {A = ℕ} (x == i) 1 0) (sym e)

pub times_bound : (i : ℕ) (places : List ℕ) (k place : ℕ) → k < length places → place ≡ get_or places k 0 → times i (take k places) + cond {A = ℕ} (place == i) 1 0 ≤ times i places
times_bound i places k place lt e =
    let same : cond {A = ℕ} (get_or places k 0 == i) 1 0 ≡ cond {A = ℕ} (place == i) 1 0 = ap (λ x. cond {A = ℕ} (x == i) 1 0) (sym e) in
    omega (arith, same, sum_by_more_le (λ x. cond {A = ℕ} (x == i) 1 0) places k 0 lt)

pub here_once : (i : ℕ) → cond {A = ℕ} (i == i) 1 0 ≡ 1
here_once i = ap (λ (b : Bool). cond {A = ℕ} b 1 0) (eq-eqb i i refl)

pub not_here : (place i : ℕ) → (i ≡ place → ⊥) → cond {A = ℕ} (place == i) 1 0 ≡ 0
not_here place i n = ap (λ (b : Bool). cond {A = ℕ} b 1 0) (ne_eqb place i (λ e. n (sym e)))

-- a count from which each index is subtracted as often as it occurs among some
pub count_left : (old counts places : List ℕ) (k place : ℕ) → k < length places → place ≡ get_or places k 0 → ((i : ℕ) → times i places ≤ get_or old i 0)
    → ((i : ℕ) → get_or counts i 0 + times i (take k places) ≡ get_or old i 0) → 1 ≤ get_or counts place 0
count_left old counts places k place lt e bound before = omega (arith, times_bound place places k place lt e, here_once place, bound place, before place)

pub place_within : (counts : List ℕ) (place : ℕ) → 1 ≤ get_or counts place 0 → place < length counts
place_within counts place h = elim (cases_lt place (length counts)) as (λ _. place < length counts) [
  | inl lt ↦ lt
  | inr le ↦ absurd (omega (arith, h, get_or_past counts place 0 le))
]

pub count_more : (old counts new places : List ℕ) (k place : ℕ) → k < length places → place ≡ get_or places k 0 → place < length counts
    → new ≡ set counts place (get_or counts place 0 - 1) → 1 ≤ get_or counts place 0
    → ((i : ℕ) → get_or counts i 0 + times i (take k places) ≡ get_or old i 0) → (i : ℕ) → get_or new i 0 + times i (take (k + 1) places) ≡ get_or old i 0
count_more old counts new places k place lt e within written some before i = elim (cases_eq i place) as (λ _. get_or new i 0 + times i (take (k + 1) places) ≡ get_or old i 0) [
  | inl here ↦
      let at : get_or new place 0 ≡ get_or counts place 0 - 1 = ap (λ (xs : List ℕ). get_or xs place 0) written ∙ get_or-set_same counts place (get_or counts place 0 - 1) 0 within in
      let now : get_or new place 0 + times place (take (k + 1) places) ≡ get_or old place 0 = omega (arith, at, some, times_more place places k place lt e, here_once place, before place) in
      subst (λ (n : ℕ). get_or new n 0 + times n (take (k + 1) places) ≡ get_or old n 0) (sym here) now
  | inr other ↦
      let at : get_or new i 0 ≡ get_or counts i 0 = ap (λ (xs : List ℕ). get_or xs i 0) written ∙ get_or-set_other counts place i (get_or counts place 0 - 1) 0 other in
      omega (arith, at, times_more i places k place lt e, not_here place i other, before i)
]

-- the item at an index among the first ones, and one more
pub get_here : {X : Type 0} (xs : List X) (k : ℕ) (x : X) → k < length xs → x ≡ get_or xs k x → slice_get xs k ≡ Some x
get_here [] k x lt e = absurd (omega (arith, lt))
get_here (y ∷ xs) zero x lt e = ap (λ z. Some z) (sym e)
get_here (y ∷ xs) (suc k) x lt e = get_here xs k x (omega (arith, lt)) e

pub get_not_yet : {X : Type 0} (xs : List X) (k : ℕ) → slice_get (take k xs) k ≡ None
get_not_yet [] zero = refl
get_not_yet [] (suc k) = refl
get_not_yet (x ∷ xs) zero = refl
get_not_yet (x ∷ xs) (suc k) = get_not_yet xs k

get_after_here : {X : Type 0} (xs : List X) (k : ℕ) (x : X) → k < length xs → x ≡ get_or xs k x → slice_get (take (suc k) xs) k ≡ Some x
get_after_here [] k x lt e = absurd (omega (arith, lt))
get_after_here (y ∷ xs) zero x lt e = ap (λ z. Some z) (sym e)
get_after_here (y ∷ xs) (suc k) x lt e = get_after_here xs k x (omega (arith, lt)) e

get_after_other : {X : Type 0} (xs : List X) (k i : ℕ) → (i ≡ k → ⊥) → slice_get (take (suc k) xs) i ≡ slice_get (take k xs) i
get_after_other [] zero i n = refl
get_after_other [] (suc k) i n = refl
get_after_other (y ∷ xs) zero zero n = absurd (n refl)
get_after_other (y ∷ xs) zero (suc i) n = refl
get_after_other (y ∷ xs) (suc k) zero n = refl
get_after_other (y ∷ xs) (suc k) (suc i) n = get_after_other xs k i (λ e. n (ap suc e))

pub get_more_here : {X : Type 0} (xs : List X) (k : ℕ) (x : X) → k < length xs → x ≡ get_or xs k x → slice_get (take (k + 1) xs) k ≡ Some x
get_more_here xs k x lt e = let next : suc k ≡ k + 1 = omega arith in subst (λ n. slice_get (take n xs) k ≡ Some x) next (get_after_here xs k x lt e)

pub get_more_other : {X : Type 0} (xs : List X) (k i : ℕ) → (i ≡ k → ⊥) → slice_get (take (k + 1) xs) i ≡ slice_get (take k xs) i
get_more_other xs k i n = let next : suc k ≡ k + 1 = omega arith in subst (λ m. slice_get (take m xs) i ≡ slice_get (take k xs) i) next (get_after_other xs k i n)
