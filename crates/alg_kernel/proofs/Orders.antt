-- Increasing lists: their members, how they grow, and that two with the same elements are equal.
use Rattle.std.proofs.Common.{◌≡◌, ℕ, ◌≤◌, zero, suc, Bool, true, false, Option, Some, None, List, [], ◌∷◌, ◌++◌, length, take, drop, refl, sym, ◌∙◌, subst, arith, inl, inr, ◌⊎◌, Ordering, Less, Equal, Greater}
use Rattle.std.specs.Cmp.{IsTotalOrder, bool_cmp_total}
use Rattle.std.specs.Cmp.Lexicographic.{options_total, lists_total}
use Rattle.std.specs.Ordering.{bool_cmp, ordering_then}
use Rattle.std.specs.Option.{option_cmp}
use Rattle.std.specs.Cmp.Lexicographic.{slice_cmp}
use Rattle.std.proofs.lemmas.Cmp.{tied_itself}
use Rattle.alg_div.specs.Cubes.{Has}
use Rattle.alg_div.proofs.Lists.{Has-append}
use Rattle.alg_kernel.specs.Kernels.{row_cmp, rows_cmp, Ascends}

pub row_total : IsTotalOrder row_cmp
row_total = lists_total (options_total bool_cmp_total)

pub rows_total : IsTotalOrder rows_cmp
rows_total = lists_total row_total

-- what compares equal is equal
then_first : (o p : Ordering) → ordering_then o p ≡ Equal → o ≡ Equal
then_first Less p h = cc
then_first Equal p h = refl
then_first Greater p h = cc

then_second : (o p : Ordering) → ordering_then o p ≡ Equal → p ≡ Equal
then_second Less p h = cc
then_second Equal p h = h
then_second Greater p h = cc

pub lists_same : {X : Type 0} (R : X → X → Ordering) → ((x y : X) → R x y ≡ Equal → x ≡ y) → (xs ys : List X) → slice_cmp R xs ys ≡ Equal → xs ≡ ys
lists_same R same [] [] h = refl
lists_same R same [] (y ∷ ys) h = cc
lists_same R same (x ∷ xs) [] h = cc
lists_same R same (x ∷ xs) (y ∷ ys) h =
    let a : x ≡ y = same x y (then_first _ (slice_cmp R xs ys) h) in
    let b : xs ≡ ys = lists_same R same xs ys (then_second (R x y) _ h) in
    cc

literals_same : (x y : Option Bool) → option_cmp bool_cmp x y ≡ Equal → x ≡ y
literals_same None None h = refl
literals_same None (Some b) h = cc
literals_same (Some a) None h = cc
literals_same (Some true) (Some true) h = refl
literals_same (Some true) (Some false) h = cc
literals_same (Some false) (Some true) h = cc
literals_same (Some false) (Some false) h = refl

pub row_same : (x y : List (Option Bool)) → row_cmp x y ≡ Equal → x ≡ y
row_same = lists_same (option_cmp bool_cmp) literals_same

pub rows_same : (x y : List (List (Option Bool))) → rows_cmp x y ≡ Equal → x ≡ y
rows_same = lists_same row_cmp row_same

-- elements of the parts of a list
pub Has-taken : {X : Type 0} (z : X) (xs : List X) (i : ℕ) → Has z (take i xs) → Has z xs
Has-taken z xs zero m = absurd m
Has-taken z [] (suc i) m = absurd m
Has-taken z (x ∷ xs) (suc i) m = elim m as (λ _. Has z (x ∷ xs)) [ inl e ↦ inl e | inr n ↦ inr (Has-taken z xs i n) ]

pub Has-dropped : {X : Type 0} (z : X) (xs : List X) (i : ℕ) → Has z (drop i xs) → Has z xs
Has-dropped z xs zero m = m
Has-dropped z [] (suc i) m = absurd m
Has-dropped z (x ∷ xs) (suc i) m = inr (Has-dropped z xs i m)

pub Has-parts : {X : Type 0} (z : X) (xs : List X) (i : ℕ) → Has z xs → Has z (take i xs) ⊎ Has z (drop i xs)
Has-parts z xs zero m = inr m
Has-parts z [] (suc i) m = absurd m
Has-parts z (x ∷ xs) (suc i) m = elim m as (λ _. Has z (take (suc i) (x ∷ xs)) ⊎ Has z (drop (suc i) (x ∷ xs))) [
  | inl e ↦ inl (inl e)
  | inr n ↦ elim (Has-parts z xs i n) as (λ _. Has z (take (suc i) (x ∷ xs)) ⊎ Has z (drop (suc i) (x ∷ xs))) [ inl a ↦ inl (inr a) | inr b ↦ inr b ]
]

-- nothing is below itself
module _ {X : Type 0} (R : X → X → Ordering) (o : IsTotalOrder R) where
  not_below : (x : X) → R x x ≡ Less → ⊥
  not_below x h = let e : R x x ≡ Equal = tied_itself o x in let s : Less ≡ Equal = sym h ∙ e in cc

  -- a first element of a rising list is not among the rest
  pub apart-first : (x : X) (xs : List X) → Ascends R (x ∷ xs) → Has x xs → ⊥
  unfolding Ascends
  apart-first x xs h m = not_below x (h.0 x m)

  -- two rising lists of the same elements are one
  pub same-ascending : (xs ys : List X) → Ascends R xs → Ascends R ys → ((z : X) → Has z xs → Has z ys) → ((z : X) → Has z ys → Has z xs) → xs ≡ ys
  unfolding Ascends
  same-ascending [] [] h k a b = refl
  same-ascending [] (y ∷ ys) h k a b = absurd (b y (inl refl))
  same-ascending (x ∷ xs) [] h k a b = absurd (a x (inl refl))
  same-ascending (x ∷ xs) (y ∷ ys) h k a b =
      let same : x ≡ y = elim (a x (inl refl)) as (λ _. x ≡ y) [ inl e ↦ e | inr m ↦ elim (b y (inl refl)) as (λ _. x ≡ y) [ inl e ↦ sym e | inr n ↦ absurd (not_below x (o.trans x y x (h.0 y n) (k.0 x m))) ] ] in
      let tails : xs ≡ ys = same-ascending xs ys h.1 k.1
      (λ z m. elim (a z (inr m)) as (λ _. Has z ys) [ inl e ↦ absurd (not_below x (subst (λ (w : X). R x w ≡ Less) (e ∙ sym same) (h.0 z m))) | inr n ↦ n ])
      (λ z m. elim (b z (inr m)) as (λ _. Has z xs) [ inl e ↦ absurd (not_below y (subst (λ (w : X). R y w ≡ Less) (e ∙ same) (k.0 z m))) | inr n ↦ n ]) in
      cc

  -- a rising list among the elements of another is no longer
  pub fewer-ascending : (ks xs : List X) → Ascends R ks → Ascends R xs → ((z : X) → Has z ks → Has z xs) → length ks ≤ length xs
  unfolding Ascends
  fewer-ascending [] xs h k a = omega arith
  fewer-ascending (z ∷ ks) [] h k a = absurd (a z (inl refl))
  fewer-ascending (z ∷ ks) (x ∷ xs) h k a = elim (a z (inl refl)) as (λ _. length (z ∷ ks) ≤ length (x ∷ xs)) [
    | inl e ↦ omega (arith, fewer-ascending ks xs h.1 k.1 (λ y m. elim (a y (inr m)) as (λ _. Has y xs) [ inl s ↦ absurd (not_below z (subst (λ (w : X). R z w ≡ Less) (s ∙ sym e) (h.0 y m))) | inr n ↦ n ]))
    | inr m ↦ (let rest = fewer-ascending (z ∷ ks) xs h k.1 (λ y n. elim (a y n) as (λ _. Has y xs) [
      | inl s ↦ elim n as (λ _. Has y xs) [ inl t ↦ subst (λ (w : X). Has w xs) (sym t) m | inr l ↦ absurd (not_below x (o.trans x z x (k.0 z m) (subst (λ (w : X). R z w ≡ Less) s (h.0 y l)))) ]
      | inr l ↦ l
    ]) in omega (arith, rest))
  ]

  -- an element inserted between those below it and those above it
  pub insert-ascends : (xs : List X) (i : ℕ) (y : X) → Ascends R xs → i ≤ length xs → ((z : X) → Has z (take i xs) → R z y ≡ Less) → ((z : X) → Has z (drop i xs) → R y z ≡ Less) → Ascends R (take i xs ++ y ∷ drop i xs)
  unfolding Ascends
  insert-ascends xs zero y h lt below above = (above, h)
  insert-ascends [] (suc i) y h lt below above = absurd (omega arith)
  insert-ascends (x ∷ xs) (suc i) y h lt below above = (
    λ z m. elim (Has-append z (take i xs) (y ∷ drop i xs) m) as (λ _. R x z ≡ Less) [
      | inl a ↦ h.0 z (Has-taken z xs i a)
      | inr b ↦ elim b as (λ _. R x z ≡ Less) [ inl e ↦ subst (λ (w : X). R x w ≡ Less) (sym e) (below x (inl refl)) | inr c ↦ h.0 z (Has-dropped z xs i c) ]
    ],
    insert-ascends xs i y h.1 (omega arith) (λ z m. below z (inr m)) above,
  )
