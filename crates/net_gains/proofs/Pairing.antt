-- What pairs save, pair by pair.
use Rattle.std.proofs.Common.{Equal, ◌≡◌, ℕ, ◌+◌, ◌-◌, ◌<◌, ◌≤◌, ◌⊎◌, inl, inr, ◌==◌, zero, suc, Bool, true, false, ◌&&◌, ◌||◌, not, cond, List, [], ◌∷◌, length, drop, get_or, map, filter, refl, sym, ap, ap₂, ◌∙◌, subst, arith, drop-cons, take}
use Rattle.std.proofs.lemmas.List.{take_all, length-drop}
use Rattle.std.specs.List.{list_any, sum_by, AllByRecursion}
use Rattle.std.proofs.lemmas.Bool.{false≢true, eq-eqb, ne_eqb}
use Rattle.std.proofs.lemmas.List.Sums.{sum_by-cons}
use Rattle.std.proofs.lemmas.Map.Lookups.{exact_bytes}
use Rattle.net_gains.specs.Gains.{over_pairs}
use Rattle.net_gains.specs.Divisors.{cover_of, Sums}
use Rattle.net_gains.specs.CodedGains.{own, shared, numbers_cmp, same_lists, sum_of_two, sum_gain, product_gain, is_one}
use Rattle.net_gains.specs.Turning.{saved_by}
use Rattle.net_gains.specs.declared.divisor.Divisor.{Divisor}

-- the first of those that pass a test
first_passed : (test : ℕ → Bool) (xs : List ℕ) (x : ℕ) (rest : List ℕ) → filter test xs ≡ x ∷ rest → (test x ≡ true) × (list_any (λ y. x == y) xs ≡ true)
first_passed test [] x rest h = absurd cc
first_passed test (y ∷ xs) x rest h = cases (test y) refl h (first_passed test xs x rest)
  where
    later : (b : Bool) → (b || true) ≡ true
    later true = refl
    later false = refl

    cases : (b : Bool) → test y ≡ b → cond b (y ∷ filter test xs) (filter test xs) ≡ x ∷ rest → (filter test xs ≡ x ∷ rest → (test x ≡ true) × (list_any (λ z. x == z) xs ≡ true))
        → (test x ≡ true) × (list_any (λ z. x == z) (y ∷ xs) ≡ true)
    cases true e k more =
        let same : y ≡ x = ap (λ (zs : List ℕ). get_or zs 0 0) k in
        (ap test (sym same) ∙ e, ap (λ (b : Bool). b || list_any (λ z. x == z) xs) (eq-eqb x y (sym same)))
    cases false e k more = let found = more k in (found.0, ap (λ (b : Bool). (x == y) || b) found.1 ∙ later (x == y))

-- what each of two lists has besides the other differs
pub own_apart : (xs ys : List ℕ) → is_one (own xs ys) ≡ false → numbers_cmp (own xs ys) (own ys xs) ≡ Equal → ⊥
own_apart xs ys some same = cases (own xs ys) refl some
  where
    cases : (zs : List ℕ) → own xs ys ≡ zs → is_one zs ≡ false → ⊥
    cases [] e h = false≢true (sym h)
    cases (x ∷ rest) e h =
        let mine = first_passed (λ z. not (list_any (λ y. z == y) ys)) xs x rest e in
        let yours = first_passed (λ z. not (list_any (λ y. z == y) xs)) ys x rest (sym (exact_bytes (own xs ys) (own ys xs) same) ∙ e) in
        false≢true (ap not (sym yours.1) ∙ mine.0)

-- each number of a list is shared or its own
pub parts_long : (xs ys : List ℕ) → length (shared xs ys) + length (own xs ys) ≡ length xs
parts_long [] ys = refl
parts_long (x ∷ xs) ys = cases (list_any (λ y. x == y) ys) (parts_long xs ys)
  where
    cases : (b : Bool) → length (shared xs ys) + length (own xs ys) ≡ length xs
        → length (cond b (x ∷ shared xs ys) (shared xs ys)) + length (cond (not b) (x ∷ own xs ys) (own xs ys)) ≡ suc (length xs)
    cases true h = omega (arith, h)
    cases false h = omega (arith, h)

some_long : (xs : List ℕ) → is_one xs ≡ false → 0 < length xs
some_long [] h = absurd (false≢true (sym h))
some_long (x ∷ xs) h = omega arith

-- what two rows save
pub sum_saved : (cover : List (List ℕ)) (xs ys : List ℕ) (divisor : Divisor) (saving : ℕ) → is_one (own xs ys) ≡ false → is_one (own ys xs) ≡ false → Sums (own xs ys) (own ys xs) divisor
    → saving ≡ length xs + (length (own ys xs) - 1) → saved_by divisor saving cover ≡ sum_gain cover xs ys
unfolding sum_gain
sum_saved cover xs ys divisor saving mine yours sums is =
    ap₂ (λ (c : List (List ℕ)) (n : ℕ). cond (same_lists cover c) n 0) (sums mine yours (own_apart xs ys mine)) amount
    ∙ sym (ap₂ (λ (b c : Bool). cond ((not b && not c) && same_lists cover (sum_of_two xs ys)) (length (shared xs ys) + length (own xs ys) + length (own ys xs) - 1) 0) mine yours)
  where
    amount : saving ≡ length (shared xs ys) + length (own xs ys) + length (own ys xs) - 1
    amount = let long = parts_long xs ys in let some = some_long (own ys xs) yours in omega (arith, is, long, some)

pub sum_unsaved : (cover : List (List ℕ)) (xs ys : List ℕ) → (is_one (own xs ys) ≡ true) ⊎ (is_one (own ys xs) ≡ true) → sum_gain cover xs ys ≡ 0
unfolding sum_gain
sum_unsaved cover xs ys (inl none) =
    ap (λ (b : Bool). cond ((not b && not (is_one (own ys xs))) && same_lists cover (sum_of_two xs ys)) (length (shared xs ys) + length (own xs ys) + length (own ys xs) - 1) 0) none
sum_unsaved cover xs ys (inr none) =
    ap (λ (b : Bool). cond ((not (is_one (own xs ys)) && not b) && same_lists cover (sum_of_two xs ys)) (length (shared xs ys) + length (own xs ys) + length (own ys xs) - 1) 0) none
    ∙ cases (not (is_one (own xs ys)))
  where
    cases : (b : Bool) → ◌≡◌ {A = ℕ} (cond ((b && false) && same_lists cover (sum_of_two xs ys)) (length (shared xs ys) + length (own xs ys) + length (own ys xs) - 1) 0) 0
    cases true = refl
    cases false = refl

-- what two literals of a row save
pub product_saved : (cover : List (List ℕ)) (one other : ℕ) (divisor : Divisor) → cover_of divisor ≡ (one ∷ other ∷ []) ∷ [] → saved_by divisor 1 cover ≡ product_gain cover one other
unfolding product_gain
product_saved cover one other divisor is = ap (λ (c : List (List ℕ)). cond {A = ℕ} (same_lists cover c) 1 0) is

module _ {X : Type 0} where
  -- the first of a remainder with the others
  pub sum_next : (f : X → ℕ) (xs : List X) (i : ℕ) (d x : X) → i < length xs → x ≡ get_or xs i d → sum_by f (drop i xs) ≡ f x + sum_by f (drop (i + 1) xs)
  sum_next f xs i d x lt is =
      ap (sum_by f) (drop-cons xs i d lt)
      ∙ (sum_by-cons f (get_or xs i d) (drop (suc i) xs) ∙ ap₂ (λ (y : X) (n : ℕ). f y + sum_by f (drop n xs)) (sym is) (let z : suc i ≡ i + 1 = omega arith in z))

  pub sum_past : (f : X → ℕ) (xs : List X) (i : ℕ) → length xs ≤ i → sum_by f (drop i xs) ≡ 0
  sum_past f [] zero le = refl
  sum_past f [] (suc i) le = refl
  sum_past f (x ∷ xs) zero le = absurd (omega (arith, le))
  sum_past f (x ∷ xs) (suc i) le = sum_past f xs i (omega (arith, le))

  pub pairs_next : (f : X → X → ℕ) (xs : List X) (i : ℕ) (d x : X) → i < length xs → x ≡ get_or xs i d → over_pairs f (drop i xs) ≡ sum_by (f x) (drop (i + 1) xs) + over_pairs f (drop (i + 1) xs)
  unfolding over_pairs
  pairs_next f xs i d x lt is =
      ap (over_pairs f) (drop-cons xs i d lt)
      ∙ ap₂ (λ (y : X) (n : ℕ). sum_by (f y) (drop n xs) + over_pairs f (drop n xs)) (sym is) (let z : suc i ≡ i + 1 = omega arith in z)

  pub pairs_past : (f : X → X → ℕ) (xs : List X) (i : ℕ) → length xs ≤ i → over_pairs f (drop i xs) ≡ 0
  unfolding over_pairs
  pairs_past f [] zero le = refl
  pairs_past f [] (suc i) le = refl
  pairs_past f (x ∷ xs) zero le = absurd (omega (arith, le))
  pairs_past f (x ∷ xs) (suc i) le = pairs_past f xs i (omega (arith, le))

module _ {X : Type 0} where
  -- the part of a list from an index on
  pub rest_is : (xs : List X) (i : ℕ) → take (length xs - i) (drop i xs) ≡ drop i xs
  rest_is xs i = take_all (length xs - i) (drop i xs) (let long : length (drop i xs) ≡ length xs - i = length-drop i xs in omega (arith, long))

  -- all items from an index on
  items_past : (P : X → Type 0) (xs : List X) (i : ℕ) → AllByRecursion P xs → AllByRecursion P (drop i xs)
  items_past P xs zero all = all
  items_past P [] (suc i) all = all
  items_past P (x ∷ xs) (suc i) all = items_past P xs i all.1

  pub items_rest : (P : X → Type 0) (xs : List X) (i : ℕ) → AllByRecursion P xs → AllByRecursion P (take (length xs - i) (drop i xs))
  items_rest P xs i all = subst (AllByRecursion P) (sym (rest_is xs i)) (items_past P xs i all)

  pub pairs_rest : (f : X → X → ℕ) (xs : List X) (i : ℕ) (d x : X) → i < length xs → x ≡ get_or xs i d
      → over_pairs f (drop i xs) ≡ sum_by (f x) (take (length xs - (i + 1)) (drop (i + 1) xs)) + over_pairs f (drop (i + 1) xs)
  pairs_rest f xs i d x lt is = pairs_next f xs i d x lt is ∙ ap (λ (ys : List X). sum_by (f x) ys + over_pairs f (drop (i + 1) xs)) (sym (rest_is xs (i + 1)))

pub all_units : (xs : List ℕ) → AllByRecursion (λ (x : ℕ). Unit {0}) xs
all_units [] = tt
all_units (x ∷ xs) = (tt, all_units xs)

-- what mapped items save is what the items save
module _ {X Y : Type 0} (g : X → Y) where
  pub all_mapped : (P : Y → Type 0) (xs : List X) → AllByRecursion P (map g xs) → AllByRecursion (λ x. P (g x)) xs
  all_mapped P [] all = tt
  all_mapped P (x ∷ xs) all = (all.0, all_mapped P xs all.1)

  pub sum_mapped : (f : Y → ℕ) (xs : List X) → sum_by f (map g xs) ≡ sum_by (λ x. f (g x)) xs
  sum_mapped f [] = refl
  sum_mapped f (x ∷ xs) = sum_by-cons f (g x) (map g xs) ∙ (ap (λ (n : ℕ). f (g x) + n) (sum_mapped f xs) ∙ sym (sum_by-cons (λ y. f (g y)) x xs))

  pub pairs_mapped : (f : Y → Y → ℕ) (xs : List X) → over_pairs f (map g xs) ≡ over_pairs (λ x y. f (g x) (g y)) xs
  unfolding over_pairs
  pairs_mapped f [] = refl
  pairs_mapped f (x ∷ xs) = ap₂ (λ (m n : ℕ). m + n) (sum_mapped (f (g x)) xs) (pairs_mapped f xs)

  pub across_mapped : (f : Y → Y → ℕ) (xs ys : List X) → sum_by (λ y. sum_by (f y) (map g ys)) (map g xs) ≡ sum_by (λ x. sum_by (λ y. f (g x) (g y)) ys) xs
  across_mapped f xs ys =
      sum_mapped (λ y. sum_by (f y) (map g ys)) xs ∙ ap (λ (h : X → ℕ). sum_by h xs) (λ i x. sum_mapped (f (g x)) ys i)

-- whether a list is without numbers
pub long_or_one : (xs : List ℕ) → is_one xs ≡ (length xs == 0)
long_or_one [] = refl
long_or_one (x ∷ xs) = sym (ne_eqb (suc (length xs)) 0 (λ e. omega (arith, e)))

pub sums_as : (first second one other : List ℕ) (divisor : Divisor) → first ≡ one → second ≡ other → Sums first second divisor → Sums one other divisor
sums_as first second one other divisor e f sums = subst (λ (zs : List ℕ). Sums one zs divisor) f (subst (λ (zs : List ℕ). Sums zs second divisor) e sums)
