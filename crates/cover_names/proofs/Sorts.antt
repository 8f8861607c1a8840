-- A sort of std, and `dedup` after it, give the sorted list.
use Rattle.std.proofs.Common.{◌≡◌, ◌↔◌, Bool, true, List, Ordering, Less, Equal, Greater, is_eq, is_lt, Bor, Contains, IsSorted, IsPermutation, refl, sym, ap, ◌∙◌, subst, true≢false}
use denote.Param.Members.{Mut}
use Rattle.std.specs.Cmp.{IsEquivalence, IsTotalOrder}
use Rattle.std.specs.Fn.{Called}
use Rattle.std.specs.List.{dedup}
use Rattle.std.specs.List.Sorted.{IsSortedByClosure}
use Rattle.std.specs.Ordering.{eq_by_cmp}
use Rattle.std.proofs.lemmas.Cmp.{eq_by_cmp_equiv}
use Rattle.std.proofs.lemmas.Fn.{always_returns_same}
use Rattle.std.proofs.lemmas.List.Sorted.{Contains-permutation, IsPermutation-sym, ranks_by}
use Rattle.std.proofs.lemmas.List.Kept.{Contains-dedup, Contains-from_dedup, IsStrictlySortedBy-dedup}
use Rattle.cover_names.specs.Literals.{sorted}
use Rattle.cover_names.proofs.Members.{contains_has, has_contains}
use Rattle.cover_names.proofs.Orders.{IsOrder}
use Rattle.cover_names.proofs.Sorting.{sorted_is, sorted_has, sorted_keeps, sorted_same}

is_equal : (o : Ordering) → is_eq o ≡ true → o ≡ Equal
is_equal Less h = absurd (true≢false (sym h))
is_equal Equal h = refl
is_equal Greater h = absurd (true≢false (sym h))

pub sorted_deduped : {X : Type 0} {cmp : X → X → Ordering} → IsOrder cmp → (same : X → X → Bool) → ((x y : X) → same x y ≡ eq_by_cmp cmp x y)
    → (xs ys : List X) → IsPermutation xs ys → IsSorted cmp ys → sorted cmp xs ≡ dedup same ys
sorted_deduped {X} {cmp} order same ties xs ys moved rises =
    sorted_is order xs (dedup same ys) (IsStrictlySortedBy-dedup order.total ties ys rises)
    (λ x m. has_contains x (dedup same ys) (Contains-dedup equal is ys x (Contains-permutation xs ys x moved (contains_has x xs m))))
    (λ x m. has_contains x xs (Contains-permutation ys xs x (IsPermutation-sym xs ys moved) (Contains-from_dedup same ys x (contains_has x (dedup same ys) m))))
  where
    equal : IsEquivalence same
    equal = subst IsEquivalence (λ i x y. sym (ties x y) i) (eq_by_cmp_equiv order.total)

    is : (x y : X) → same x y ≡ true → x ≡ y
    is x y h = order.same x y (is_equal (cmp x y) (sym (ties x y) ∙ h))

-- what `sort_unstable_by` leaves, if each call compares by an order
pub sorted_by_calls : {X : Type 0} {cmp : X → X → Ordering} → IsTotalOrder cmp → {F : Type 0} {g : Mut F (Bor X × (Bor X × Unit {0})) Ordering} {f : F} (xs : List X)
    → IsSortedByClosure g f xs → ((a : Bor X × (Bor X × Unit {0})) (r : Ordering) (f' : F) → Called g f a r f' → (r ≡ cmp a.0.now a.1.0.now) × (f' ≡ f)) → IsSorted cmp xs
sorted_by_calls {X} {cmp} total {F} {g} {f} xs rises calls =
    rises (λ x y. is_lt (cmp x y)) (ranks_by total (λ x. x))
    (always_returns_same g (λ a r. is_lt r ≡ is_lt (cmp a.0.now a.1.0.now)) f (λ a r f' k. (ap is_lt (calls a r f' k).0, (calls a r f' k).1)))

-- a sorted list contains exactly what the list does
pub sorted_contains : {X : Type 0} {cmp : X → X → Ordering} → IsOrder cmp → (xs : List X) (x : X) → Contains (sorted cmp xs) x ↔ Contains xs x
sorted_contains {X} {cmp} order xs x = (
  λ k. contains_has x xs (sorted_has order xs x (has_contains x (sorted cmp xs) k)),
  λ k. contains_has x (sorted cmp xs) (sorted_keeps order xs x (has_contains x xs k)),
)

pub sorted_told : {X : Type 0} {cmp : X → X → Ordering} → IsOrder cmp → (xs ys : List X) → ((x : X) → Contains xs x ↔ Contains ys x) → sorted cmp xs ≡ sorted cmp ys
sorted_told order xs ys h =
    sorted_same order xs ys (λ x m. has_contains x ys ((h x).0 (contains_has x xs m))) (λ x m. has_contains x xs ((h x).1 (contains_has x ys m)))
