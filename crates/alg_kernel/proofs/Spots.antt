-- What a binary search says of rising kernels; and small facts about results.
use Rattle.std.proofs.Common.{◌≡◌, ℕ, ◌+◌, ◌<◌, ◌≤◌, zero, suc, Bool, false, Option, List, [], ◌∷◌, ◌++◌, length, get_or, take, drop, map, refl, sym, ap, ◌∙◌, subst, arith, inl, inr, Ordering, Less, Greater, is_lt, Vec, Global, OnOk}
use Rattle.std.specs.Prelude.{Result, Ok, Err, MatchResult}
use Rattle.std.specs.Ordering.{bool_cmp, ordering_then, ordering_index, ordering_reverse}
use Rattle.std.specs.Option.{option_cmp}
use Rattle.std.specs.Cmp.Lexicographic.{slice_cmp}
use Rattle.std.specs.List.Sorted.{IsSearchInRange, IsBinarySearchResult, IsNonDecreasingBy, IsSortedBy}
use Rattle.std.specs.Cmp.{IsTotalOrder}
use Rattle.std.proofs.lemmas.List.{length-map}
use Rattle.std.proofs.lemmas.List.Sorted.{searchable_from_sorted}
use Rattle.alg_div.specs.Cubes.{Has}
use Rattle.alg_div.specs.Steps.{literals_in}
use Rattle.alg_div.proofs.Lists.{Has-at, Has-map}
use Rattle.alg_kernel.specs.Kernels.{row_cmp, rows_cmp, Ascends}
use Rattle.alg_kernel.specs.Search.{kernels_in, IsBetween}
use Rattle.alg_kernel.proofs.Orders.{rows_total, rows_same}

pub ok-map : {T E : Type 0} (P Q : Type 0) → (P → Q) → (r : Result T E) → OnOk r P → OnOk r Q
ok-map P Q f (Ok x) h = f h
ok-map P Q f (Err e) h = tt

pub map-insert : {X Z : Type 0} (f : X → Z) (xs : List X) (i : ℕ) (y : X) → map f (take i xs ++ y ∷ drop i xs) ≡ take i (map f xs) ++ f y ∷ drop i (map f xs)
map-insert f xs zero y = refl
map-insert f [] (suc i) y = refl
map-insert f (x ∷ xs) (suc i) y = ap (λ (l : List _). f x ∷ l) (map-insert f xs i y)

map-cmp : {X : Type 0} (f : X → List (Option Bool)) (xs ys : List X) → slice_cmp (λ a b. row_cmp (f a) (f b)) xs ys ≡ slice_cmp row_cmp (map f xs) (map f ys)
map-cmp f [] [] = refl
map-cmp f [] (y ∷ ys) = refl
map-cmp f (x ∷ xs) [] = refl
map-cmp f (x ∷ xs) (y ∷ ys) = ap (ordering_then (row_cmp (f x) (f y))) (map-cmp f xs ys)

-- how kernels are compared
abbrev pub kernel_cmp : Vec (Vec (Option Bool) Global) Global → Vec (Vec (Option Bool) Global) Global → Ordering
kernel_cmp x y = slice_cmp (λ a b. slice_cmp (option_cmp bool_cmp) a.items b.items) x.items y.items

kernel_cmp-is : (x y : Vec (Vec (Option Bool) Global) Global) → kernel_cmp x y ≡ rows_cmp (literals_in x.items) (literals_in y.items)
kernel_cmp-is x y = map-cmp (λ v. v.items) x.items y.items

ascends-at : {X Z : Type 0} (R : Z → Z → Ordering) (g : X → Z) (xs : List X) (i j : ℕ) (d : X) → Ascends R (map g xs) → i < j → j < length xs → R (g (get_or xs i d)) (g (get_or xs j d)) ≡ Less
unfolding Ascends
ascends-at R g [] i j d h lt b = absurd (omega arith)
ascends-at R g (x ∷ xs) i zero d h lt b = absurd (omega arith)
ascends-at R g (x ∷ xs) zero (suc j) d h lt b = h.0 _ (Has-map g (get_or xs j d) xs (Has-at xs j d (omega arith)))
ascends-at R g (x ∷ xs) (suc i) (suc j) d h lt b = ascends-at R g xs i j d h.1 (omega arith) (omega arith)

taken-at : {X Z : Type 0} (g : X → Z) (xs : List X) (i : ℕ) (d : X) (z : Z) → Has z (take i (map g xs)) → (k : ℕ) × (k < i) × (z ≡ g (get_or xs k d))
taken-at g xs zero d z m = absurd m
taken-at g [] (suc i) d z m = absurd m
taken-at g (x ∷ xs) (suc i) d z m = elim m as (λ _. (k : ℕ) × (k < suc i) × (z ≡ g (get_or (x ∷ xs) k d))) [ inl e ↦ (0, omega arith, e) | inr n ↦ (let p = taken-at g xs i d z n in (suc p.0, omega (arith, p.1), p.2)) ]

dropped-at : {X Z : Type 0} (g : X → Z) (xs : List X) (i : ℕ) (d : X) (z : Z) → Has z (drop i (map g xs)) → (k : ℕ) × (i ≤ k) × (k < length xs) × (z ≡ g (get_or xs k d))
dropped-at g [] zero d z m = absurd m
dropped-at g (x ∷ xs) zero d z m = elim m as (λ _. (k : ℕ) × (0 ≤ k) × (k < length (x ∷ xs)) × (z ≡ g (get_or (x ∷ xs) k d))) [ inl e ↦ (0, omega arith, omega arith, e) | inr n ↦ (let p = dropped-at g xs zero d z n in (suc p.0, omega arith, omega (arith, p.2), p.3)) ]
dropped-at g [] (suc i) d z m = absurd m
dropped-at g (x ∷ xs) (suc i) d z m = let p = dropped-at g xs i d z m in (suc p.0, omega (arith, p.1), omega (arith, p.2), p.3)

turned-less : {Z : Type 0} (R : Z → Z → Ordering) → IsTotalOrder R → (x y : Z) → R x y ≡ Less → is_lt (R y x) ≡ false
turned-less R o x y h = ap is_lt (o.antisymm y x ∙ ap ordering_reverse h)

turned-greater : {Z : Type 0} (R : Z → Z → Ordering) → IsTotalOrder R → (x y : Z) → R y x ≡ Greater → R x y ≡ Less
turned-greater R o x y h = o.antisymm x y ∙ ap ordering_reverse h

pub spot : (xs : List (Vec (Vec (Option Bool) Global) Global)) (x : Vec (Vec (Option Bool) Global) Global) (r : Result ℕ ℕ) → Ascends rows_cmp (kernels_in xs) → IsSearchInRange r (length xs) → IsBinarySearchResult (λ y. kernel_cmp y x) xs r
    → MatchResult r (λ i. Has (literals_in x.items) (kernels_in xs)) (λ i. IsBetween (kernels_in xs) i (literals_in x.items))
spot xs x (Ok i) order bound at =
    let same : literals_in (get_or xs i x).items ≡ literals_in x.items = rows_same _ _ (sym (kernel_cmp-is (get_or xs i x) x) ∙ at x) in
    subst (λ (k : List (List (Option Bool))). Has k (kernels_in xs)) same (Has-map (λ k. literals_in k.items) (get_or xs i x) xs (Has-at xs i x bound))
spot xs x (Err i) order bound at =
    let sorted : IsSortedBy (λ a b. is_lt (rows_cmp (literals_in a.items) (literals_in b.items))) xs = λ k d low high. turned-less rows_cmp rows_total (literals_in (get_or xs k d).items) (literals_in (get_or xs (k + 1) d).items) (ascends-at rows_cmp (λ k. literals_in k.items) xs k (k + 1) d order (omega arith) high) in
    let rises : IsNonDecreasingBy (λ y. ordering_index (rows_cmp (literals_in y.items) (literals_in x.items))) xs = searchable_from_sorted rows_total (λ k. literals_in k.items) xs (literals_in x.items) sorted in
    let parts = at (λ k j d le lt.
    subst (λ (o : Ordering). ordering_index o ≤ ordering_index (kernel_cmp (get_or xs j d) x)) (sym (kernel_cmp-is (get_or xs k d) x))
    (subst (λ (o : Ordering). ordering_index (rows_cmp (literals_in (get_or xs k d).items) (literals_in x.items)) ≤ ordering_index o) (sym (kernel_cmp-is (get_or xs j d) x)) (rises k j d le lt))) in (
      omega (arith, bound, length-map xs (λ k. literals_in k.items)),
      λ z m. (let p = taken-at (λ k. literals_in k.items) xs i x z m in subst (λ (k : List (List (Option Bool))). rows_cmp k (literals_in x.items) ≡ Less) (sym p.2) (sym (kernel_cmp-is (get_or xs p.0 x) x) ∙ parts.0 p.0 x (omega arith) p.1)),
      λ z m. (let p = dropped-at (λ k. literals_in k.items) xs i x z m in subst (λ (k : List (List (Option Bool))). rows_cmp (literals_in x.items) k ≡ Less) (sym p.3) (turned-greater rows_cmp rows_total (literals_in x.items) (literals_in (get_or xs p.0 x).items) (sym (kernel_cmp-is (get_or xs p.0 x) x) ∙ parts.1 p.0 x p.1 p.2))),
    )
