-- Lists with the same items, each once: their sums over items and over pairs are the same.
use Rattle.std.proofs.Common.{◌≡◌, ◌⊎◌, ℕ, ◌+◌, Bool, true, false, cond, List, [], ◌∷◌, ◌++◌, filter, refl, sym, ap, ap₂, ◌∙◌, subst, inl, inr, arith}
use Rattle.std.specs.List.{sum_by}
use Rattle.std.proofs.lemmas.Bool.{false≢true}
use Rattle.std.proofs.lemmas.List.Sums.{sum_by-cons, sum_by-append}
use Rattle.cover_names.proofs.Members.{Has}
use Rattle.net_gains.specs.Gains.{over_pairs}

-- ---- members

pub has_left : {X : Type 0} (x : X) (xs ys : List X) → Has x xs → Has x (xs ++ ys)
has_left x [] ys h = absurd h
has_left x (y ∷ xs) ys h = elim h as (λ _. Has x ((y ∷ xs) ++ ys)) [ inl e ↦ inl e | inr m ↦ inr (has_left x xs ys m) ]

pub has_right : {X : Type 0} (x : X) (xs ys : List X) → Has x ys → Has x (xs ++ ys)
has_right x [] ys h = h
has_right x (y ∷ xs) ys h = inr (has_right x xs ys h)

pub has_append : {X : Type 0} (x : X) (xs ys : List X) → Has x (xs ++ ys) → Has x xs ⊎ Has x ys
has_append x [] ys h = inr h
has_append x (y ∷ xs) ys h =
    elim h as (λ _. Has x (y ∷ xs) ⊎ Has x ys) [ inl e ↦ inl (inl e) | inr m ↦ (elim (has_append x xs ys m) as (λ _. Has x (y ∷ xs) ⊎ Has x ys) [ inl a ↦ inl (inr a) | inr b ↦ inr b ]) ]

pub kept_has : {X : Type 0} (test : X → Bool) (xs : List X) (x : X) → Has x (filter test xs) → Has x xs × (test x ≡ true)
kept_has test [] x m = absurd m
kept_has test (first ∷ xs) x m = cases (test first) refl m (kept_has test xs x)
  where
    cases : (b : Bool) → test first ≡ b → Has x (cond b (first ∷ filter test xs) (filter test xs)) → (Has x (filter test xs) → Has x xs × (test x ≡ true)) → Has x (first ∷ xs) × (test x ≡ true)
    cases true e k more = elim k as (λ _. Has x (first ∷ xs) × (test x ≡ true)) [ inl same ↦ (inl same, ap test same ∙ e) | inr n ↦ (let p = more n in (inr p.0, p.1)) ]
    cases false e k more = let p = more k in (inr p.0, p.1)

pub has_kept : {X : Type 0} (test : X → Bool) (xs : List X) (x : X) → Has x xs → test x ≡ true → Has x (filter test xs)
has_kept test [] x m h = absurd m
has_kept test (first ∷ xs) x m h = cases (test first) refl m (λ k. has_kept test xs x k h)
  where
    cases : (b : Bool) → test first ≡ b → Has x (first ∷ xs) → (Has x xs → Has x (filter test xs)) → Has x (cond b (first ∷ filter test xs) (filter test xs))
    cases true e k more = elim k as (λ _. Has x (first ∷ filter test xs)) [ inl same ↦ inl same | inr n ↦ inr (more n) ]
    cases false e k more = elim k as (λ _. Has x (filter test xs)) [ inl same ↦ absurd (false≢true (sym e ∙ ap test (sym same) ∙ h)) | inr n ↦ more n ]

-- ---- items that occur once

abbrev pub AreOnce : {X : Type 0} → List X → Type 0
AreOnce [] = Unit {0}
AreOnce (x ∷ xs) = (Has x xs → ⊥) × AreOnce xs

pub once_kept : {X : Type 0} (test : X → Bool) (xs : List X) → AreOnce xs → AreOnce (filter test xs)
once_kept test [] h = h
once_kept test (x ∷ xs) h = cases (test x) (once_kept test xs h.1)
  where
    cases : (b : Bool) → AreOnce (filter test xs) → AreOnce (cond b (x ∷ filter test xs) (filter test xs))
    cases true rest = (λ m. h.0 (kept_has test xs x m).0, rest)
    cases false rest = rest

pub once_append : {X : Type 0} (xs ys : List X) → AreOnce xs → AreOnce ys → ((x : X) → Has x xs → Has x ys → ⊥) → AreOnce (xs ++ ys)
once_append [] ys a b apart = b
once_append (x ∷ xs) ys a b apart = (
  λ m. elim (has_append x xs ys m) as (λ _. ⊥) [ inl k ↦ a.0 k | inr k ↦ apart x (inl refl) k ],
  once_append xs ys a.1 b (λ y m n. apart y (inr m) n),
)

has_split : {X : Type 0} (x : X) (xs : List X) → Has x xs → (before : List X) × (after : List X) × (xs ≡ before ++ x ∷ after)
has_split x [] m = absurd m
has_split {X} x (y ∷ ys) m =
    elim m as (λ _. (before : List X) × (after : List X) × (y ∷ ys ≡ before ++ x ∷ after)) [
      | inl e ↦ ([], ys, ap (λ (z : X). z ∷ ys) (sym e))
      | inr n ↦ (let (before, after, e) = has_split x ys n in (y ∷ before, after, ap (λ (zs : List X). y ∷ zs) e))
    ]

wider : {X : Type 0} (z x : X) (before after : List X) → Has z (before ++ after) → Has z (before ++ x ∷ after)
wider z x before after m =
    elim (has_append z before after m) as (λ _. Has z (before ++ x ∷ after)) [ inl k ↦ has_left z before (x ∷ after) k | inr k ↦ has_right z before (x ∷ after) (inr k) ]

narrower : {X : Type 0} (z x : X) (before after : List X) → Has z (before ++ x ∷ after) → (z ≡ x) ⊎ Has z (before ++ after)
narrower z x before after m =
    elim (has_append z before (x ∷ after) m) as (λ _. (z ≡ x) ⊎ Has z (before ++ after)) [
      | inl k ↦ inr (has_left z before after k)
      | inr k ↦ elim k as (λ _. (z ≡ x) ⊎ Has z (before ++ after)) [ inl e ↦ inl e | inr n ↦ inr (has_right z before after n) ]
    ]

around : {X : Type 0} (x : X) (before after : List X) → AreOnce (before ++ x ∷ after) → (Has x (before ++ after) → ⊥) × AreOnce (before ++ after)
around x [] after h = h
around x (y ∷ before) after h =
    let rest = around x before after h.1 in (
      λ m. elim m as (λ _. ⊥) [ inl e ↦ h.0 (subst (λ z. Has z (before ++ x ∷ after)) e (has_right x before (x ∷ after) (inl refl))) | inr n ↦ rest.0 n ],
      (λ m. h.0 (wider y x before after m), rest.1),
    )

-- ---- lists with the same items, each once

pub record AreSame {X : Type 0} (xs ys : List X) : Type 0 where
  pub once : AreOnce xs
  pub other_once : AreOnce ys
  pub there : (x : X) → Has x xs → Has x ys
  pub back : (x : X) → Has x ys → Has x xs

-- after one item is removed they are still the same
rest_same : {X : Type 0} (x : X) (xs before after : List X) → AreSame (x ∷ xs) (before ++ x ∷ after) → AreSame xs (before ++ after)
rest_same {X} x xs before after same =
    let parts = around x before after same.other_once in
    record {
      once = same.once.1;
      other_once = parts.1;
      there = λ z m. elim (narrower z x before after (same.there z (inr m))) as (λ _. Has z (before ++ after)) [
        | inl e ↦ absurd (same.once.0 (subst (λ (y : X). Has y xs) e m))
        | inr n ↦ n
      ];
      back = λ z m. elim (same.back z (wider z x before after m)) as (λ _. Has z xs) [
        | inl e ↦ absurd (parts.0 (subst (λ (y : X). Has y (before ++ after)) e m))
        | inr n ↦ n
      ];
    }

sum_around : {X : Type 0} (f : X → ℕ) (x : X) (before after : List X) → sum_by f (before ++ x ∷ after) ≡ f x + sum_by f (before ++ after)
sum_around f x before after =
    omega (arith, sum_by-append f before (x ∷ after), sum_by-cons f x after, sum_by-append f before after)

pub sum_same : {X : Type 0} (f : X → ℕ) (xs ys : List X) → AreSame xs ys → sum_by f xs ≡ sum_by f ys
sum_same f [] [] same = refl
sum_same f [] (y ∷ ys) same = absurd (same.back y (inl refl))
sum_same {X} f (x ∷ xs) ys same =
    let (before, after, e) = has_split x ys (same.there x (inl refl)) in
    let whole : AreSame (x ∷ xs) (before ++ x ∷ after) = subst (AreSame (x ∷ xs)) e same in
    let rest : sum_by f xs ≡ sum_by f (before ++ after) = sum_same f xs (before ++ after) (rest_same x xs before after whole) in
    sum_by-cons f x xs ∙ (ap (λ (n : ℕ). f x + n) rest ∙ (sym (sum_around f x before after) ∙ ap (sum_by f) (sym e)))

-- a value that does not depend on the order of its two items
abbrev pub IsEven : {X : Type 0} → (X → X → ℕ) → List X → Type 0
IsEven {X} gain xs = (x y : X) → Has x xs → Has y xs → gain x y ≡ gain y x

pairs_around : {X : Type 0} (gain : X → X → ℕ) (x : X) (before after : List X) → ((y : X) → Has y before → gain y x ≡ gain x y)
    → over_pairs gain (before ++ x ∷ after) ≡ sum_by (gain x) (before ++ after) + over_pairs gain (before ++ after)
unfolding over_pairs
pairs_around gain x [] after even = refl
pairs_around gain x (y ∷ before) after even =
    let rest : over_pairs gain (before ++ x ∷ after) ≡ sum_by (gain x) (before ++ after) + over_pairs gain (before ++ after) = pairs_around gain x before after (λ z m. even z (inr m)) in
    let here : gain y x ≡ gain x y = even y (inl refl) in
    omega (arith, rest, here, sum_by-append (gain y) before (x ∷ after), sum_by-cons (gain y) x after, sum_by-append (gain y) before after, sum_by-cons (gain x) y (before ++ after))

pub pairs_same : {X : Type 0} (gain : X → X → ℕ) (xs ys : List X) → AreSame xs ys → IsEven gain ys → over_pairs gain xs ≡ over_pairs gain ys
unfolding over_pairs
pairs_same gain [] [] same even = refl
pairs_same gain [] (y ∷ ys) same even = absurd (same.back y (inl refl))
pairs_same {X} gain (x ∷ xs) ys same even =
    let (before, after, e) = has_split x ys (same.there x (inl refl)) in
    let whole : AreSame (x ∷ xs) (before ++ x ∷ after) = subst (AreSame (x ∷ xs)) e same in
    let less : AreSame xs (before ++ after) = rest_same x xs before after whole in
    let balanced : IsEven gain (before ++ x ∷ after) = subst (IsEven gain) e even in
    let rest : over_pairs gain xs ≡ over_pairs gain (before ++ after) =
    pairs_same gain xs (before ++ after) less (λ y z m n. balanced y z (wider y x before after m) (wider z x before after n)) in
    let first : sum_by (gain x) xs ≡ sum_by (gain x) (before ++ after) = sum_same (gain x) xs (before ++ after) less in
    ap₂ (λ (m n : ℕ). m + n) first rest
    ∙ (sym (pairs_around gain x before after (λ y m. balanced y x (has_left y before (x ∷ after) m) (has_right x before (x ∷ after) (inl refl))))
    ∙ ap (over_pairs gain) (sym e))

-- ---- one list after another

pub pairs_append : {X : Type 0} (gain : X → X → ℕ) (xs ys : List X) → over_pairs gain (xs ++ ys) ≡ over_pairs gain xs + (sum_by (λ x. sum_by (gain x) ys) xs + over_pairs gain ys)
unfolding over_pairs
pairs_append gain [] ys = omega arith
pairs_append gain (x ∷ xs) ys =
    let rest : over_pairs gain (xs ++ ys) ≡ over_pairs gain xs + (sum_by (λ x. sum_by (gain x) ys) xs + over_pairs gain ys) = pairs_append gain xs ys in
    omega (arith, rest, sum_by-append (gain x) xs ys, sum_by-cons (λ z. sum_by (gain z) ys) x xs)
