-- What a map that keeps an order carries over: comparisons of lists, rising and sorted lists, and
-- items whose summands are above 0.
use Rattle.std.proofs.Common.{◌≡◌, ℕ, ◌+◌, ◌<◌, zero, suc, Bool, true, false, ◌||◌, cond, List, [], ◌∷◌, map, Ordering, Less, Equal, Greater, refl, sym, ap, ap₂, ◌∙◌, subst, arith, inl, inr}
use Rattle.std.specs.Cmp.{IsTotalOrder}
use Rattle.std.specs.Cmp.Lexicographic.{slice_cmp}
use Rattle.std.specs.List.{AllByRecursion, filter, list_any, list_all, sum_by}
use Rattle.std.specs.List.Sorted.{IsStrictlySortedBy}
use Rattle.std.specs.Ordering.{ordering_then}
use Rattle.std.proofs.lemmas.Bool.{and_parts, and_from}
use Rattle.std.proofs.lemmas.Cmp.{tied_itself}
use Rattle.std.proofs.lemmas.List.Sums.{sum_by-cons}
use Rattle.cover_names.specs.Literals.{put_by, put_in, sorted}
use Rattle.cover_names.proofs.Members.{Has}
use Rattle.cover_names.proofs.Orders.{IsOrder}

-- a map under which known items compare as they did before
pub record Keeps {X Y : Type 0} (known : X → Type 0) (cmp : X → X → Ordering) (other_cmp : Y → Y → Ordering) (f : X → Y) : Type 0 where
  pub at : (x y : X) → known x → known y → other_cmp (f x) (f y) ≡ cmp x y

-- ---- lists whose items are all known

pub all_from_test : {X : Type 0} (test : X → Bool) (P : X → Type 0) → ((x : X) → test x ≡ true → P x) → (xs : List X) → list_all test xs ≡ true → AllByRecursion P xs
all_from_test test P to [] h = tt
all_from_test test P to (x ∷ xs) h = let parts = and_parts (test x) (list_all test xs) h in (to x parts.0, all_from_test test P to xs parts.1)

pub test_from_all : {X : Type 0} (test : X → Bool) (P : X → Type 0) → ((x : X) → P x → test x ≡ true) → (xs : List X) → AllByRecursion P xs → list_all test xs ≡ true
test_from_all test P to [] all = refl
test_from_all test P to (x ∷ xs) all = and_from (test x) (list_all test xs) (to x all.0) (test_from_all test P to xs all.1)

pub all_has : {X : Type 0} (P : X → Type 0) (xs : List X) → AllByRecursion P xs → (x : X) → Has x xs → P x
all_has P [] all x m = absurd m
all_has P (first ∷ xs) all x m = elim m as (λ _. P x) [ inl e ↦ subst P (sym e) all.0 | inr n ↦ all_has P xs all.1 x n ]

pub all_put : {X : Type 0} (P : X → Type 0) (cmp : X → X → Ordering) (item : X) (xs : List X) → P item → AllByRecursion P xs → AllByRecursion P (put_in cmp item xs)
unfolding put_in
all_put P cmp item [] it all = (it, tt)
all_put P cmp item (first ∷ xs) it all = cases (cmp item first) (all_put P cmp item xs it all.1)
  where
    cases : (o : Ordering) → AllByRecursion P (put_in cmp item xs) → AllByRecursion P (put_by o item first xs (put_in cmp item xs))
    cases Less rest = (it, all)
    cases Equal rest = all
    cases Greater rest = (all.0, rest)

pub all_sorted : {X : Type 0} (P : X → Type 0) (cmp : X → X → Ordering) (xs : List X) → AllByRecursion P xs → AllByRecursion P (sorted cmp xs)
unfolding sorted
all_sorted P cmp [] all = tt
all_sorted P cmp (x ∷ xs) all = all_put P cmp x (sorted cmp xs) all.0 (all_sorted P cmp xs all.1)

-- ---- what is carried over

module _ {X Y : Type 0} {known : X → Type 0} {cmp : X → X → Ordering} {other_cmp : Y → Y → Ordering} {f : X → Y} (keeps : Keeps known cmp other_cmp f) where
  pub lists_at : (xs ys : List X) → AllByRecursion known xs → AllByRecursion known ys → slice_cmp other_cmp (map f xs) (map f ys) ≡ slice_cmp cmp xs ys
  lists_at [] [] first second = refl
  lists_at [] (y ∷ ys) first second = refl
  lists_at (x ∷ xs) [] first second = refl
  lists_at (x ∷ xs) (y ∷ ys) first second = ap₂ ordering_then (keeps.at x y first.0 second.0) (lists_at xs ys first.1 second.1)

  pub lists_keep : Keeps (AllByRecursion known) (slice_cmp cmp) (slice_cmp other_cmp) (map f)
  lists_keep = record { at = lists_at }

  pub same_items : IsOrder cmp → IsTotalOrder other_cmp → (x y : X) → known x → known y → f x ≡ f y → x ≡ y
  same_items order total x y first second e =
      order.same x y (sym (keeps.at x y first second) ∙ ap (λ (z : Y). other_cmp z (f y)) e ∙ tied_itself total (f y))

  map_put : (item : X) (xs : List X) → known item → AllByRecursion known xs → map f (put_in cmp item xs) ≡ put_in other_cmp (f item) (map f xs)
  unfolding put_in
  map_put item [] it all = refl
  map_put item (first ∷ xs) it all =
      cases (cmp item first) (map_put item xs it all.1)
      ∙ ap (λ (o : Ordering). put_by o (f item) (f first) (map f xs) (put_in other_cmp (f item) (map f xs))) (sym (keeps.at item first it all.0))
    where
      cases : (o : Ordering) → map f (put_in cmp item xs) ≡ put_in other_cmp (f item) (map f xs)
          → map f (put_by o item first xs (put_in cmp item xs)) ≡ put_by o (f item) (f first) (map f xs) (put_in other_cmp (f item) (map f xs))
      cases Less rest = refl
      cases Equal rest = refl
      cases Greater rest = ap (λ (ys : List Y). f first ∷ ys) rest

  pub map_sorted : (xs : List X) → AllByRecursion known xs → map f (sorted cmp xs) ≡ sorted other_cmp (map f xs)
  unfolding sorted
  map_sorted [] all = refl
  map_sorted (x ∷ xs) all =
      map_put x (sorted cmp xs) all.0 (all_sorted known cmp xs all.1) ∙ ap (put_in other_cmp (f x)) (map_sorted xs all.1)

  above_mapped : (x : X) (xs : List X) → known x → AllByRecursion known xs → AllByRecursion (λ y. cmp x y ≡ Less) xs → AllByRecursion (λ y. other_cmp (f x) y ≡ Less) (map f xs)
  above_mapped x [] it all above = tt
  above_mapped x (y ∷ ys) it all above = (keeps.at x y it all.0 ∙ above.0, above_mapped x ys it all.1 above.1)

  pub map_rises : (xs : List X) → AllByRecursion known xs → IsStrictlySortedBy cmp xs → IsStrictlySortedBy other_cmp (map f xs)
  unfolding IsStrictlySortedBy
  map_rises [] all h = tt
  map_rises (x ∷ xs) all h = (above_mapped x xs all.0 all.1 h.0, map_rises xs all.1 h.1)

-- a test on known items that agrees with one on what they are mapped to
module _ {X Y : Type 0} (known : X → Type 0) (f : X → Y) where
  pub map_filter : (p : X → Bool) (q : Y → Bool) → ((x : X) → known x → q (f x) ≡ p x) → (xs : List X) → AllByRecursion known xs → map f (filter p xs) ≡ filter q (map f xs)
  map_filter p q agree [] all = refl
  map_filter p q agree (x ∷ xs) all =
      cases (p x) (map_filter p q agree xs all.1) ∙ ap (λ (b : Bool). cond {A = List Y} b (f x ∷ filter q (map f xs)) (filter q (map f xs))) (sym (agree x all.0))
    where
      cases : (b : Bool) → map f (filter p xs) ≡ filter q (map f xs)
          → map f (cond {A = List X} b (x ∷ filter p xs) (filter p xs)) ≡ cond {A = List Y} b (f x ∷ filter q (map f xs)) (filter q (map f xs))
      cases true rest = ap (λ (ys : List Y). f x ∷ ys) rest
      cases false rest = rest

  pub map_any : (p : X → Bool) (q : Y → Bool) → ((x : X) → known x → q (f x) ≡ p x) → (xs : List X) → AllByRecursion known xs → list_any q (map f xs) ≡ list_any p xs
  map_any p q agree [] all = refl
  map_any p q agree (x ∷ xs) all = ap₂ (λ (b c : Bool). b || c) (agree x all.0) (map_any p q agree xs all.1)

  pub map_sum : (p : X → ℕ) (q : Y → ℕ) → ((x : X) → known x → q (f x) ≡ p x) → (xs : List X) → AllByRecursion known xs → sum_by q (map f xs) ≡ sum_by p xs
  map_sum p q agree [] all = refl
  map_sum p q agree (x ∷ xs) all = sum_by-cons q (f x) (map f xs) ∙ ap₂ (λ (m n : ℕ). m + n) (agree x all.0) (map_sum p q agree xs all.1) ∙ sym (sum_by-cons p x xs)

-- ---- sums

-- a sum above 0 has an item whose summand is above 0
pub some_counts : {X : Type 0} (g : X → ℕ) (xs : List X) → 0 < sum_by g xs → (x : X) × Has x xs × (0 < g x)
some_counts g [] h = absurd (omega arith)
some_counts {X} g (x ∷ xs) h = cases (g x) refl (λ k. some_counts g xs k)
  where
    cases : (n : ℕ) → g x ≡ n → (0 < sum_by g xs → (y : X) × Has y xs × (0 < g y)) → (y : X) × Has y (x ∷ xs) × (0 < g y)
    cases zero e rest = let p = rest (omega (arith, e, sum_by-cons g x xs)) in (p.0, inr p.1, p.2)
    cases (suc n) e rest = (x, inl refl, omega (arith, e))
