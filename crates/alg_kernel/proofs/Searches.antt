-- The progress of a search: what is entered, what is explored, and what it has found at its end.
use Rattle.std.proofs.Common.{◌≡◌, ℕ, ◌+◌, ◌<◌, ◌≤◌, zero, suc, Bool, true, false, if◌then◌else◌, Option, None, List, [], ◌∷◌, ◌++◌, length, get_or, take, drop, map, refl, sym, ap, ◌∙◌, subst, arith, inl, inr, ◌⊎◌}
use Rattle.std.proofs.lemmas.List.{length-append, length-take, length-drop}
use Rattle.std.proofs.lemmas.Bool.{cases_lt}
use Rattle.sis_base.specs.Rows.{HasWidth}
use Rattle.alg_div.specs.Cubes.{Has}
use Rattle.alg_div.proofs.Lists.{Has-left, Has-right, Has-append}
use Rattle.alg_kernel.specs.Kernels.{rows_cmp, Ascends}
use Rattle.cube_cover.specs.Literals.{has_literal}
use Rattle.alg_kernel.specs.Search.{holding_rows, over, common_cube, IsFound, kernel_at, IsExplored, IsSearch, IsStep, IsMore, TooMany, AreFound, MoreFound, IsBetween, IsExploredTo}
use Rattle.alg_kernel.proofs.Orders.{rows_total, insert-ascends, Has-taken, Has-dropped, Has-parts}
use Rattle.alg_kernel.proofs.Parts.{over-width}
use Rattle.alg_kernel.proofs.Found.{all-found, kernel-step, start-found}
use Rattle.sis_base.specs.declared.limits.TheConstants.{MAX_KERNELS}

module _ (P : List (List (Option Bool)) → Type 0) where
  pub more-none : (s t : List (List (List (Option Bool)))) → Ascends rows_cmp s → length s ≤ MAX_KERNELS → IsMore P s t s t
  more-none s t order room = record {
    kept = λ k m. m;
    only = λ k m. inl m;
    order = order;
    room = room;
    open_kept = λ k m. m;
    open_only = λ k m. inl m;
    listed = λ k m. inl m;
    balance = refl;
    grows = omega arith;
  }

  pub more-trans : (s t s' t' s'' t'' : List (List (List (Option Bool)))) → IsMore P s t s' t' → IsMore P s' t' s'' t'' → IsMore P s t s'' t''
  more-trans s t s' t' s'' t'' a b = record {
    kept = λ k m. b.kept k (a.kept k m);
    only = λ k m. elim (b.only k m) as (λ _. Has k s ⊎ P k) [ inl n ↦ a.only k n | inr p ↦ inr p ];
    order = b.order;
    room = b.room;
    open_kept = λ k m. b.open_kept k (a.open_kept k m);
    open_only = λ k m. elim (b.open_only k m) as (λ _. Has k t ⊎ Has k s'') [ inl n ↦ elim (a.open_only k n) as (λ _. Has k t ⊎ Has k s'') [ inl l ↦ inl l | inr l ↦ inr (b.kept k l) ] | inr n ↦ inr n ];
    listed = λ k m. elim (b.listed k m) as (λ _. Has k s ⊎ Has k t'') [ inl n ↦ elim (a.listed k n) as (λ _. Has k s ⊎ Has k t'') [ inl l ↦ inl l | inr l ↦ inr (b.open_kept k l) ] | inr n ↦ inr n ];
    balance = omega (arith, a.balance, b.balance);
    grows = omega (arith, a.grows, b.grows);
  }

  pub many-more : (s t s' t' : List (List (List (Option Bool)))) → IsMore P s t s' t' → TooMany P s' → TooMany P s
  many-more s t s' t' a (ks, more, order, from) = (ks, more, order, λ k m. elim (from k m) as (λ _. Has k s ⊎ P k) [ inl n ↦ a.only k n | inr p ↦ inr p ])

pub more-as : (P Q : List (List (Option Bool)) → Type 0) → ((k : List (List (Option Bool))) → P k → Q k) → (s t s' t' : List (List (List (Option Bool)))) → IsMore P s t s' t' → IsMore Q s t s' t'
more-as P Q f s t s' t' a = record {
  kept = a.kept;
  only = λ k m. elim (a.only k m) as (λ _. Has k s ⊎ Q k) [ inl n ↦ inl n | inr p ↦ inr (f k p) ];
  order = a.order;
  room = a.room;
  open_kept = a.open_kept;
  open_only = a.open_only;
  listed = a.listed;
  balance = a.balance;
  grows = a.grows;
}

pub many-as : (P Q : List (List (Option Bool)) → Type 0) → ((k : List (List (Option Bool))) → P k → Q k) → (s : List (List (List (Option Bool)))) → TooMany P s → TooMany Q s
many-as P Q f s (ks, more, order, from) = (ks, more, order, λ k m. elim (from k m) as (λ _. Has k s ⊎ Q k) [ inl n ↦ inl n | inr p ↦ inr (f k p) ])

-- the elements of a list with one inserted
insert-old : {X : Type 0} (xs : List X) (i : ℕ) (y z : X) → Has z xs → Has z (take i xs ++ y ∷ drop i xs)
insert-old xs i y z m = elim (Has-parts z xs i m) as (λ _. Has z (take i xs ++ y ∷ drop i xs)) [ inl a ↦ Has-left z (take i xs) (y ∷ drop i xs) a | inr b ↦ Has-right z (take i xs) (y ∷ drop i xs) (inr b) ]

insert-new : {X : Type 0} (xs : List X) (i : ℕ) (y : X) → Has y (take i xs ++ y ∷ drop i xs)
insert-new xs i y = Has-right y (take i xs) (y ∷ drop i xs) (inl refl)

insert-has : {X : Type 0} (xs : List X) (i : ℕ) (y z : X) → Has z (take i xs ++ y ∷ drop i xs) → Has z xs ⊎ (z ≡ y)
insert-has xs i y z m = elim (Has-append z (take i xs) (y ∷ drop i xs) m) as (λ _. Has z xs ⊎ (z ≡ y)) [
  | inl a ↦ inl (Has-taken z xs i a)
  | inr b ↦ elim b as (λ _. Has z xs ⊎ (z ≡ y)) [ inl e ↦ inr e | inr c ↦ inl (Has-dropped z xs i c) ]
]

insert-length : {X : Type 0} (xs : List X) (i : ℕ) (y : X) → i ≤ length xs → length (take i xs ++ y ∷ drop i xs) ≡ length xs + 1
insert-length xs i y h = simp (length-append, length-take, length-drop) (omega arith)

pub entered-new : (s t : List (List (List (Option Bool)))) (k : List (List (Option Bool))) (i : ℕ) → Ascends rows_cmp s → IsBetween s i k → length s < MAX_KERNELS → IsMore (λ z. z ≡ k) s t (take i s ++ k ∷ drop i s) (t ++ k ∷ [])
entered-new s t k i order (le, below, above) room = record {
  kept = insert-old s i k;
  only = insert-has s i k;
  order = insert-ascends rows_cmp rows_total s i k order le below above;
  room = omega (arith, insert-length s i k le);
  open_kept = λ z m. Has-left z t (k ∷ []) m;
  open_only = λ z m. elim (Has-append z t (k ∷ []) m) as (λ _. Has z t ⊎ Has z (take i s ++ k ∷ drop i s)) [
    | inl a ↦ inl a
    | inr b ↦ elim b as (λ _. Has z t ⊎ Has z (take i s ++ k ∷ drop i s)) [ inl e ↦ inr (subst (λ (x : List (List (Option Bool))). Has x (take i s ++ k ∷ drop i s)) (sym e) (insert-new s i k)) | inr n ↦ absurd n ]
  ];
  listed = λ z m. elim (insert-has s i k z m) as (λ _. Has z s ⊎ Has z (t ++ k ∷ [])) [ inl a ↦ inl a | inr e ↦ inr (subst (λ (x : List (List (Option Bool))). Has x (t ++ k ∷ [])) (sym e) (Has-right k t (k ∷ []) (inl refl))) ];
  balance = omega (arith, insert-length s i k le, length-append t (k ∷ []));
  grows = omega (arith, insert-length s i k le);
}

pub entered-has : (s : List (List (List (Option Bool)))) (k : List (List (Option Bool))) (i : ℕ) → Has k (take i s ++ k ∷ drop i s)
entered-has s k i = insert-new s i k

pub entered-many : (s : List (List (List (Option Bool)))) (k : List (List (Option Bool))) (i : ℕ) → Ascends rows_cmp s → IsBetween s i k → MAX_KERNELS ≤ length s → TooMany (λ z. z ≡ k) s
entered-many s k i order (le, below, above) full = (take i s ++ k ∷ drop i s, omega (arith, insert-length s i k le), insert-ascends rows_cmp rows_total s i k order le below above, insert-has s i k)

-- a search whose open kernel leads to more
pub search-more : (w : ℕ) (f h : List (List (Option Bool))) (s t s' t' : List (List (List (Option Bool)))) → HasWidth w f → IsSearch w f s (h ∷ t) → IsMore (IsStep h) s t s' t' → IsSearch w f s' (h ∷ t')
search-more w f h s t s' t' wide a b = record {
  found = λ k m. elim (b.only k m) as (λ _. IsFound w f k) [
    | inl n ↦ a.found k n
    | inr p ↦ subst (IsFound w f) (sym p.3) (kernel-step w f h p.0 p.1 wide (a.found h (a.inside h (inl refl))) p.2)
  ];
  order = b.order;
  inside = λ k m. elim m as (λ _. Has k s') [
    | inl e ↦ b.kept k (a.inside k (inl e))
    | inr n ↦ elim (b.open_only k n) as (λ _. Has k s') [ inl l ↦ b.kept k (a.inside k (inr l)) | inr l ↦ l ]
  ];
  explored = λ k m. elim (b.listed k m) as (λ _. Has k (h ∷ t') ⊎ IsExplored s' k) [
    | inl n ↦ elim (a.explored k n) as (λ _. Has k (h ∷ t') ⊎ IsExplored s' k) [
      | inl o ↦ elim o as (λ _. Has k (h ∷ t') ⊎ IsExplored s' k) [ inl e ↦ inl (inl e) | inr l ↦ inl (inr (b.open_kept k l)) ]
      | inr x ↦ inr (λ i bit two. b.kept _ (x i bit two))
    ]
    | inr l ↦ inl (inr l)
  ];
  start = b.kept _ a.start;
}

pub search-explored : (w : ℕ) (f h : List (List (Option Bool))) (s t : List (List (List (Option Bool)))) → IsSearch w f s (h ∷ t) → IsExplored s h → IsSearch w f s t
search-explored w f h s t a x = record {
  found = a.found;
  order = a.order;
  inside = λ k m. a.inside k (inr m);
  explored = λ k m. elim (a.explored k m) as (λ _. Has k t ⊎ IsExplored s k) [
    | inl o ↦ elim o as (λ _. Has k t ⊎ IsExplored s k) [ inl e ↦ inr (subst (IsExplored s) (sym e) x) | inr l ↦ inl l ]
    | inr y ↦ inr y
  ];
  start = a.start;
}

pub search-popped : (w : ℕ) (f h : List (List (Option Bool))) (s t : List (List (List (Option Bool)))) → IsSearch w f s (t ++ h ∷ []) → IsSearch w f s (h ∷ t)
search-popped w f h s t a = record {
  found = a.found;
  order = a.order;
  inside = λ k m. elim m as (λ _. Has k s) [ inl e ↦ a.inside k (Has-right k t (h ∷ []) (inl e)) | inr n ↦ a.inside k (Has-left k t (h ∷ []) n) ];
  explored = λ k m. elim (a.explored k m) as (λ _. Has k (h ∷ t) ⊎ IsExplored s k) [
    | inl o ↦ elim (Has-append k t (h ∷ []) o) as (λ _. Has k (h ∷ t) ⊎ IsExplored s k) [ inl l ↦ inl (inr l) | inr l ↦ elim l as (λ _. Has k (h ∷ t) ⊎ IsExplored s k) [ inl e ↦ inl (inl e) | inr n ↦ absurd n ] ]
    | inr y ↦ inr y
  ];
  start = a.start;
}

-- the first kernel alone
pub search-start : (w : ℕ) (f : List (List (Option Bool))) (s t : List (List (List (Option Bool)))) → HasWidth w f → 2 ≤ length f → IsMore (λ z. z ≡ over (common_cube f) f) [] [] s t → Has (over (common_cube f) f) s → IsSearch w f s t
search-start w f s t wide two b m = record {
  found = λ k n. elim (b.only k n) as (λ _. IsFound w f k) [ inl x ↦ absurd x | inr e ↦ subst (IsFound w f) (sym e) (start-found w f wide two) ];
  order = b.order;
  inside = λ k n. elim (b.open_only k n) as (λ _. Has k s) [ inl x ↦ absurd x | inr l ↦ l ];
  explored = λ k n. elim (b.listed k n) as (λ _. Has k t ⊎ IsExplored s k) [ inl x ↦ absurd x | inr l ↦ inl l ];
  start = m;
}

pub search-many : (w : ℕ) (f h : List (List (Option Bool))) (s t : List (List (List (Option Bool)))) → HasWidth w f → IsSearch w f s (h ∷ t) → TooMany (IsStep h) s → MoreFound w f
search-many w f h s t wide a (ks, more, order, from) = (
  ks,
  more,
  order,
  λ k m. elim (from k m) as (λ _. IsFound w f k) [
    | inl n ↦ a.found k n
    | inr p ↦ subst (IsFound w f) (sym p.3) (kernel-step w f h p.0 p.1 wide (a.found h (a.inside h (inl refl))) p.2)
  ],
)

pub search-done : (w : ℕ) (f : List (List (Option Bool))) (s : List (List (List (Option Bool)))) → HasWidth w f → IsSearch w f s [] → AreFound w f s
search-done w f s wide a = record {
  only = a.found;
  every = λ k found. all-found w f s wide (λ x m. elim (a.explored x m) as (λ _. IsExplored s x) [ inl n ↦ absurd n | inr y ↦ y ]) a.start k found;
  order = a.order;
}

-- literals past the width occur nowhere
pub holding_rows-beyond : (w i : ℕ) (b : Bool) (rs : List (List (Option Bool))) → HasWidth w rs → w ≤ i → length (holding_rows i b rs) ≡ 0
unfolding holding_rows HasWidth
holding_rows-beyond w i b [] h le = refl
holding_rows-beyond w i b (row ∷ rows) h le = ap (λ (x : Option Bool). length (if has_literal x b then row ∷ holding_rows i b rows else holding_rows i b rows)) (past row i (omega (arith, h.0))) ∙ holding_rows-beyond w i b rows h.1 le
  where
    past : (r : List (Option Bool)) (i : ℕ) → length r ≤ i → get_or r i None ≡ None
    past [] i le = refl
    past (x ∷ xs) zero le = absurd (omega arith)
    past (x ∷ xs) (suc i) le = past xs i (omega arith)

-- the literals below the width are all that occur in two rows
pub explored-all : (w : ℕ) (seen : List (List (List (Option Bool)))) (k : List (List (Option Bool))) (n : ℕ) → HasWidth w k → w ≤ n → IsExploredTo n seen k → IsExplored seen k
explored-all w seen k n wide le to i bit two = elim (cases_lt i n) as (λ _. Has (kernel_at i bit k) seen) [ inl lt ↦ to i bit lt two | inr ge ↦ absurd (omega (arith, two, holding_rows-beyond w i bit k wide (omega arith))) ]

pub explored-more : (seen after : List (List (List (Option Bool)))) (k : List (List (Option Bool))) (n : ℕ) → ((z : List (List (Option Bool))) → Has z seen → Has z after) → IsExploredTo n seen k
    → ((bit : Bool) → 2 ≤ length (holding_rows n bit k) → Has (kernel_at n bit k) after) → IsExploredTo (n + 1) after k
explored-more seen after k n kept to here i bit lt two = elim (cases_lt i n) as (λ _. Has (kernel_at i bit k) after) [
  | inl l ↦ kept _ (to i bit l two)
  | inr ge ↦ (let e : n ≡ i = omega arith in subst (λ (j : ℕ). Has (kernel_at j bit k) after) e (here bit (subst (λ (j : ℕ). 2 ≤ length (holding_rows j bit k)) (sym e) two)))
]

pub both-bits : (P : Bool → Type 0) → P false → P true → (bit : Bool) → P bit
both-bits P f t true = t
both-bits P f t false = f

-- an open kernel has the width
pub search-width : (w : ℕ) (f h : List (List (Option Bool))) (s t : List (List (List (Option Bool)))) → HasWidth w f → IsSearch w f s (h ∷ t) → HasWidth w h
search-width w f h s t wide a = let found = a.found h (a.inside h (inl refl)) in subst (HasWidth w) (sym found.cube.2) (over-width w found.cube.0 f wide)

-- the first kernel alone is not too many, but if it were
pub start-many : (w : ℕ) (f k : List (List (Option Bool))) → HasWidth w f → 2 ≤ length f → k ≡ over (common_cube f) f → TooMany (λ z. z ≡ k) [] → MoreFound w f
start-many w f k wide two e (ks, more, order, from) = (ks, more, order, λ z m. elim (from z m) as (λ _. IsFound w f z) [ inl n ↦ absurd n | inr q ↦ subst (IsFound w f) (sym (q ∙ e)) (start-found w f wide two) ])

pub map-empty : {X Z : Type 0} (f : X → Z) (xs : List X) → length xs ≡ 0 → map f xs ≡ []
map-empty f [] e = refl
map-empty f (x ∷ xs) e = absurd (omega arith)
