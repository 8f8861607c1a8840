-- What sorting and `dedup` leave of rows: the same rows, rising.
use Rattle.std.proofs.Common.{◌≡◌, suc, Bool, true, Option, List, [], ◌∷◌, map, refl, sym, ap, ◌∙◌, subst, arith, inl, inr, true≢false, Ordering, Less, Equal, Greater, is_eq}
use Rattle.std.specs.Cmp.{IsEquivalence}
use Rattle.std.specs.List.{dedup, AllByRecursion, Contains}
use Rattle.std.specs.List.Sorted.{IsPermutation, IsStrictlySortedBy, IsSorted}
use Rattle.std.specs.Ordering.{eq_by_cmp}
use Rattle.std.proofs.lemmas.Cmp.{tied_itself, on_total}
use Rattle.std.proofs.lemmas.List.Sorted.{Contains-permutation, IsPermutation-sym}
use Rattle.std.proofs.lemmas.List.Kept.{Any-dedup, Contains-from_dedup, IsStrictlySortedBy-dedup}
use Rattle.alg_div.specs.Cubes.{Has, row_eq}
use Rattle.alg_div.proofs.Lists.{Has-at, same_from_eq, eq_from_same}
use Rattle.alg_kernel.specs.Kernels.{row_cmp, Ascends}
use Rattle.alg_kernel.specs.Search.{AreSame}
use Rattle.alg_kernel.proofs.Orders.{row_total, row_same}
use Rattle.alg_kernel.proofs.Parts.{same-test}

has-contains : {X : Type 0} (x : X) (xs : List X) → Has x xs → Contains xs x
has-contains x [] m = absurd m
has-contains x (y ∷ ys) m = elim m as (λ _. Contains (y ∷ ys) x) [ inl e ↦ (0, omega arith, sym e) | inr n ↦ (let p = has-contains x ys n in (suc p.0, omega (arith, p.1), p.2)) ]

contains-has : {X : Type 0} (x : X) (xs : List X) → Contains xs x → Has x xs
contains-has x xs (k, lt, e) = subst (λ y. Has y xs) e (Has-at xs k x lt)

map-of : {X Z : Type 0} (f : X → Z) (z : Z) (xs : List X) → Has z (map f xs) → (x : X) × Has x xs × (z ≡ f x)
map-of f z [] m = absurd m
map-of f z (x ∷ xs) m = elim m as (λ _. (y : _) × Has y (x ∷ xs) × (z ≡ f y)) [ inl e ↦ (x, inl refl, e) | inr n ↦ (let p = map-of f z xs n in (p.0, inr p.1, p.2)) ]

of-map : {X Z : Type 0} (f : X → Z) (x : X) (xs : List X) → Has x xs → Has (f x) (map f xs)
of-map f x [] m = absurd m
of-map f x (y ∷ ys) m = elim m as (λ _. Has (f x) (map f (y ∷ ys))) [ inl e ↦ inl (ap f e) | inr n ↦ inr (of-map f x ys n) ]

module _ {X : Type 0} (f : X → List (Option Bool)) where
  all-less : (x : X) (xs : List X) → AllByRecursion (λ y. row_cmp (f x) (f y) ≡ Less) xs → (z : List (Option Bool)) → Has z (map f xs) → row_cmp (f x) z ≡ Less
  all-less x [] h z m = absurd m
  all-less x (y ∷ ys) h z m = elim m as (λ _. row_cmp (f x) z ≡ Less) [ inl e ↦ subst (λ w. row_cmp (f x) w ≡ Less) (sym e) h.0 | inr n ↦ all-less x ys h.1 z n ]

  strictly-ascends : (xs : List X) → IsStrictlySortedBy (λ x y. row_cmp (f x) (f y)) xs → Ascends row_cmp (map f xs)
  unfolding IsStrictlySortedBy Ascends
  strictly-ascends [] h = tt
  strictly-ascends (x ∷ xs) h = (all-less x xs h.0, strictly-ascends xs h.1)

  eq_equiv : IsEquivalence (λ x y. row_eq (f x) (f y))
  eq_equiv = record {
    refl = λ x. eq_from_same (f x) (f x) refl;
    symm = λ x y. same-test _ _ (λ h. eq_from_same (f y) (f x) (sym (same_from_eq (f x) (f y) h))) (λ h. eq_from_same (f x) (f y) (sym (same_from_eq (f y) (f x) h)));
    congr = λ x y z h. ap (λ (r : List (Option Bool)). row_eq r (f z)) (same_from_eq (f x) (f y) h);
  }

  is-equal : (o : Ordering) → is_eq o ≡ true → o ≡ Equal
  is-equal Less h = absurd (true≢false (sym h))
  is-equal Equal h = refl
  is-equal Greater h = absurd (true≢false (sym h))

  ties : (x y : X) → row_eq (f x) (f y) ≡ eq_by_cmp (λ a b. row_cmp (f a) (f b)) x y
  ties x y = same-test _ _
      (λ h. ap is_eq (subst (λ (r : List (Option Bool)). row_cmp (f x) r ≡ Equal) (same_from_eq (f x) (f y) h) (tied_itself row_total (f x))))
      (λ h. eq_from_same (f x) (f y) (row_same (f x) (f y) (is-equal (row_cmp (f x) (f y)) h)))

  pub sorted-ascends : (xs : List X) → IsSorted (λ x y. row_cmp (f x) (f y)) xs → Ascends row_cmp (map f (dedup (λ x y. row_eq (f x) (f y)) xs))
  sorted-ascends xs h = strictly-ascends _ (IsStrictlySortedBy-dedup (on_total f row_total) ties xs h)

  pub sorted-same : (xs ys : List X) → IsPermutation xs ys → AreSame (map f xs) (map f (dedup (λ x y. row_eq (f x) (f y)) ys))
  sorted-same xs ys p r = (
    λ m. (
        let q = map-of f r xs m in
        let c : Contains ys q.0 = Contains-permutation xs ys q.0 p (has-contains q.0 xs q.1) in
        let a = Any-dedup eq_equiv ys q.0 c in
        subst (λ z. Has z (map f (dedup (λ x y. row_eq (f x) (f y)) ys))) (sym (q.2 ∙ same_from_eq (f q.0) (f a.1) a.4)) (of-map f a.1 _ (contains-has a.1 _ (a.0, a.2, a.3)))),
    λ m. (
        let q = map-of f r (dedup (λ x y. row_eq (f x) (f y)) ys) m in
        let c : Contains ys q.0 = Contains-from_dedup (λ x y. row_eq (f x) (f y)) ys q.0 (has-contains q.0 _ q.1) in
        subst (λ z. Has z (map f xs)) (sym q.2) (of-map f q.0 xs (contains-has q.0 xs (Contains-permutation ys xs q.0 (IsPermutation-sym xs ys p) c)))),
  )
