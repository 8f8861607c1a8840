-- The result of `sorted`: the items of the list, strictly increasing; no other list with the same
-- items is strictly increasing.
use Rattle.std.proofs.Common.{◌≡◌, ◌⊎◌, List, [], ◌∷◌, Ordering, Less, Equal, Greater, refl, sym, ap, ap₂, ◌∙◌, subst, inl, inr}
use Rattle.std.specs.List.{AllByRecursion}
use Rattle.std.specs.List.Sorted.{IsStrictlySortedBy}
use Rattle.std.specs.Ordering.{ordering_reverse}
use Rattle.cover_names.specs.Literals.{put_by, put_in, sorted}
use Rattle.cover_names.proofs.Orders.{IsOrder, not_below_itself}
use Rattle.cover_names.proofs.Members.{Has}

module _ {X : Type 0} {cmp : X → X → Ordering} (order : IsOrder cmp) where
  -- the items of a list with one item inserted
  pub put_has : (item : X) (xs : List X) (x : X) → Has x (put_in cmp item xs) → (x ≡ item) ⊎ Has x xs
  unfolding put_in
  put_has item [] x m = m
  put_has item (first ∷ xs) x m = cases (cmp item first) m (put_has item xs x)
    where
      cases : (o : Ordering) → Has x (put_by o item first xs (put_in cmp item xs)) → (Has x (put_in cmp item xs) → (x ≡ item) ⊎ Has x xs) → (x ≡ item) ⊎ Has x (first ∷ xs)
      cases Less k rest = k
      cases Equal k rest = inr k
      cases Greater k rest =
          elim k as (λ _. (x ≡ item) ⊎ Has x (first ∷ xs)) [
            | inl e ↦ inr (inl e)
            | inr n ↦ elim (rest n) as (λ _. (x ≡ item) ⊎ Has x (first ∷ xs)) [ inl e ↦ inl e | inr l ↦ inr (inr l) ]
          ]

  pub put_item : (item : X) (xs : List X) → Has item (put_in cmp item xs)
  unfolding put_in
  put_item item [] = inl refl
  put_item item (first ∷ xs) = cases (cmp item first) refl (put_item item xs)
    where
      cases : (o : Ordering) → cmp item first ≡ o → Has item (put_in cmp item xs) → Has item (put_by o item first xs (put_in cmp item xs))
      cases Less h rest = inl refl
      cases Equal h rest = inl (order.same item first h)
      cases Greater h rest = inr rest

  pub put_keeps : (item : X) (xs : List X) (x : X) → Has x xs → Has x (put_in cmp item xs)
  unfolding put_in
  put_keeps item [] x m = absurd m
  put_keeps item (first ∷ xs) x m = cases (cmp item first) m (put_keeps item xs x)
    where
      cases : (o : Ordering) → Has x (first ∷ xs) → (Has x xs → Has x (put_in cmp item xs)) → Has x (put_by o item first xs (put_in cmp item xs))
      cases Less k rest = inr k
      cases Equal k rest = k
      cases Greater k rest = elim k as (λ _. Has x (first ∷ put_in cmp item xs)) [ inl e ↦ inl e | inr n ↦ inr (rest n) ]

  -- a sorted list has exactly the items of the list
  pub sorted_has : (xs : List X) (x : X) → Has x (sorted cmp xs) → Has x xs
  unfolding sorted
  sorted_has [] x m = m
  sorted_has (first ∷ xs) x m =
      elim (put_has first (sorted cmp xs) x m) as (λ _. Has x (first ∷ xs)) [ inl e ↦ inl e | inr n ↦ inr (sorted_has xs x n) ]

  pub sorted_keeps : (xs : List X) (x : X) → Has x xs → Has x (sorted cmp xs)
  unfolding sorted
  sorted_keeps [] x m = m
  sorted_keeps (first ∷ xs) x m =
      elim m as (λ _. Has x (put_in cmp first (sorted cmp xs))) [
        | inl e ↦ subst (λ (y : X). Has y (put_in cmp first (sorted cmp xs))) (sym e) (put_item first (sorted cmp xs))
        | inr n ↦ put_keeps first (sorted cmp xs) x (sorted_keeps xs x n)
      ]

  above_has : (x : X) (xs : List X) → AllByRecursion (λ y. cmp x y ≡ Less) xs → (y : X) → Has y xs → cmp x y ≡ Less
  above_has x [] all y m = absurd m
  above_has x (first ∷ xs) all y m =
      elim m as (λ _. cmp x y ≡ Less) [ inl e ↦ subst (λ (z : X). cmp x z ≡ Less) (sym e) all.0 | inr n ↦ above_has x xs all.1 y n ]

  has_above : (x : X) (xs : List X) → ((y : X) → Has y xs → cmp x y ≡ Less) → AllByRecursion (λ y. cmp x y ≡ Less) xs
  has_above x [] h = tt
  has_above x (first ∷ xs) h = (h first (inl refl), has_above x xs (λ y m. h y (inr m)))

  -- each item of a rising list is less than all later ones
  pub rises_head : (x : X) (xs : List X) → IsStrictlySortedBy cmp (x ∷ xs) → (y : X) → Has y xs → cmp x y ≡ Less
  unfolding IsStrictlySortedBy
  rises_head x xs h y m = above_has x xs h.0 y m

  pub rises_tail : (x : X) (xs : List X) → IsStrictlySortedBy cmp (x ∷ xs) → IsStrictlySortedBy cmp xs
  unfolding IsStrictlySortedBy
  rises_tail x xs h = h.1

  pub rises_cons : (x : X) (xs : List X) → ((y : X) → Has y xs → cmp x y ≡ Less) → IsStrictlySortedBy cmp xs → IsStrictlySortedBy cmp (x ∷ xs)
  unfolding IsStrictlySortedBy
  rises_cons x xs h rest = (has_above x xs h, rest)

  pub rises_none : IsStrictlySortedBy cmp []
  unfolding IsStrictlySortedBy
  rises_none = tt

  turned : (x y : X) → cmp x y ≡ Greater → cmp y x ≡ Less
  turned x y h = order.total.antisymm y x ∙ ap ordering_reverse h

  pub put_rises : (item : X) (xs : List X) → IsStrictlySortedBy cmp xs → IsStrictlySortedBy cmp (put_in cmp item xs)
  unfolding put_in
  put_rises item [] h = rises_cons item [] (λ y m. absurd m) rises_none
  put_rises item (first ∷ xs) h = cases (cmp item first) refl (put_rises item xs (rises_tail first xs h))
    where
      cases : (o : Ordering) → cmp item first ≡ o → IsStrictlySortedBy cmp (put_in cmp item xs) → IsStrictlySortedBy cmp (put_by o item first xs (put_in cmp item xs))
      cases Less k rest =
          rises_cons item (first ∷ xs)
          (λ y m. elim m as (λ _. cmp item y ≡ Less) [
            | inl e ↦ subst (λ (z : X). cmp item z ≡ Less) (sym e) k
            | inr n ↦ order.total.trans item first y k (rises_head first xs h y n)
          ])
          h
      cases Equal k rest = h
      cases Greater k rest =
          rises_cons first (put_in cmp item xs)
          (λ y m. elim (put_has item xs y m) as (λ _. cmp first y ≡ Less) [
            | inl e ↦ subst (λ (z : X). cmp first z ≡ Less) (sym e) (turned item first k)
            | inr n ↦ rises_head first xs h y n
          ])
          rest

  pub sorted_rises : (xs : List X) → IsStrictlySortedBy cmp (sorted cmp xs)
  unfolding sorted
  sorted_rises [] = rises_none
  sorted_rises (x ∷ xs) = put_rises x (sorted cmp xs) (sorted_rises xs)

  -- two rising lists with the same items are the same
  pub rising_same : (xs ys : List X) → IsStrictlySortedBy cmp xs → IsStrictlySortedBy cmp ys
      → ((x : X) → Has x xs → Has x ys) → ((x : X) → Has x ys → Has x xs) → xs ≡ ys
  rising_same [] [] h k to back = refl
  rising_same [] (y ∷ ys) h k to back = absurd (back y (inl refl))
  rising_same (x ∷ xs) [] h k to back = absurd (to x (inl refl))
  rising_same (x ∷ xs) (y ∷ ys) h k to back =
      let e : x ≡ y = first_same (to x (inl refl)) (back y (inl refl)) in
      ap₂ (λ z zs. z ∷ zs) e (rising_same xs ys (rises_tail x xs h) (rises_tail y ys k) (λ z m. left e z m) (λ z m. right e z m))
    where
      first_same : Has x (y ∷ ys) → Has y (x ∷ xs) → x ≡ y
      first_same (inl e) n = e
      first_same (inr m) (inl e) = sym e
      first_same (inr m) (inr n) = absurd (not_below_itself order.total x (order.total.trans x y x (rises_head x xs h y n) (rises_head y ys k x m)))

      left : x ≡ y → (z : X) → Has z xs → Has z ys
      left e z m =
          elim (to z (inr m)) as (λ _. Has z ys) [
            | inl f ↦ absurd (not_below_itself order.total x (subst (λ (w : X). cmp x w ≡ Less) (f ∙ sym e) (rises_head x xs h z m)))
            | inr n ↦ n
          ]

      right : x ≡ y → (z : X) → Has z ys → Has z xs
      right e z m =
          elim (back z (inr m)) as (λ _. Has z xs) [
            | inl f ↦ absurd (not_below_itself order.total y (subst (λ (w : X). cmp y w ≡ Less) (f ∙ e) (rises_head y ys k z m)))
            | inr n ↦ n
          ]

  -- a rising list with exactly the items of another is that one sorted
  pub sorted_is : (xs ys : List X) → IsStrictlySortedBy cmp ys → ((x : X) → Has x xs → Has x ys) → ((x : X) → Has x ys → Has x xs) → sorted cmp xs ≡ ys
  sorted_is xs ys h to back =
      rising_same (sorted cmp xs) ys (sorted_rises xs) h (λ x m. to x (sorted_has xs x m)) (λ x m. sorted_keeps xs x (back x m))

  pub sorted_sorted : (xs : List X) → IsStrictlySortedBy cmp xs → sorted cmp xs ≡ xs
  sorted_sorted xs h = sorted_is xs xs h (λ x m. m) (λ x m. m)

  -- lists with the same items are the same after they are sorted
  pub sorted_same : (xs ys : List X) → ((x : X) → Has x xs → Has x ys) → ((x : X) → Has x ys → Has x xs) → sorted cmp xs ≡ sorted cmp ys
  sorted_same xs ys to back = sorted_is xs (sorted cmp ys) (sorted_rises ys) (λ x m. sorted_keeps ys x (to x m)) (λ x m. back x (sorted_has ys x m))
