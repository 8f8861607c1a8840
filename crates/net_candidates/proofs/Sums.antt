-- Sums over lists: of images, of lists with the same items, each once, and of a list of which some
-- items change.
use Rattle.std.proofs.Common.{◌≡◌, ◌⊎◌, ℕ, ◌+◌, Bool, true, false, cond, List, [], ◌∷◌, ◌++◌, map, filter, refl, sym, ap, ap₂, ◌∙◌, subst, inl, inr, arith}
use Rattle.std.specs.List.{sum_by}
use Rattle.std.proofs.lemmas.List.Sums.{sum_by-cons, sum_by-append}
use Rattle.alg_div.specs.Cubes.{Has}
use Rattle.alg_div.proofs.Lists.{Has-left, Has-right, Has-append}
use Rattle.net_candidates.specs.Candidates.{ArePair}
use Rattle.alg_tables.proofs.Quotients.{kept_has, image_has}

pub sum_mapped : {X Y : Type 0} (g : Y → ℕ) (f : X → Y) (xs : List X) → sum_by g (map f xs) ≡ sum_by (λ x. g (f x)) xs
sum_mapped g f [] = refl
sum_mapped g f (x ∷ xs) = sum_by-cons g (f x) (map f xs) ∙ (ap (λ (n : ℕ). g (f x) + n) (sum_mapped g f xs) ∙ sym (sum_by-cons (λ x. g (f x)) x xs))

pub sum_where : {X : Type 0} (f g : X → ℕ) (xs : List X) → ((x : X) → f x ≡ g x) → sum_by f xs ≡ sum_by g xs
sum_where f g [] h = refl
sum_where f g (x ∷ xs) h = sum_by-cons f x xs ∙ (ap₂ (λ (m n : ℕ). m + n) (h x) (sum_where f g xs h) ∙ sym (sum_by-cons g x xs))

-- the sum after a change and the old summands of what changes are the sum before and their new
-- summands
pub sum_changed : {X : Type 0} (g : X → ℕ) (turn : X → X) (changed : X → Bool) (xs : List X) → ((x : X) → changed x ≡ false → turn x ≡ x)
    → sum_by g (map turn xs) + sum_by g (filter changed xs) ≡ sum_by g xs + sum_by g (map turn (filter changed xs))
sum_changed g turn changed [] stays = refl
sum_changed {X} g turn changed (x ∷ xs) stays = cases (changed x) refl (sum_changed g turn changed xs stays)
  where
    cases : (b : Bool) → changed x ≡ b → sum_by g (map turn xs) + sum_by g (filter changed xs) ≡ sum_by g xs + sum_by g (map turn (filter changed xs))
        → sum_by g (turn x ∷ map turn xs) + sum_by g (cond b (x ∷ filter changed xs) (filter changed xs)) ≡ sum_by g (x ∷ xs) + sum_by g (map turn (cond b (x ∷ filter changed xs) (filter changed xs)))
    cases true e rest =
        omega (arith, rest, sum_by-cons g (turn x) (map turn xs), sum_by-cons g x (filter changed xs), sum_by-cons g x xs, sum_by-cons g (turn x) (map turn (filter changed xs)))
    cases false e rest =
        let same : g (turn x) ≡ g x = ap g (stays x e) in
        omega (arith, rest, same, sum_by-cons g (turn x) (map turn xs), sum_by-cons g x xs)

-- ---- lists in which each item occurs once

abbrev pub AreOnce : {X : Type 0} → List X → Type 0
AreOnce [] = Unit {0}
AreOnce (x ∷ xs) = (Has x xs → ⊥) × AreOnce xs

pub once_kept : {X : Type 0} (test : X → Bool) (xs : List X) → AreOnce xs → AreOnce (filter test xs)
once_kept test [] h = h
once_kept test (x ∷ xs) h = cases (test x) (once_kept test xs h.1)
  where
    cases : (b : Bool) → AreOnce (filter test xs) → AreOnce (cond b (x ∷ filter test xs) (filter test xs))
    cases true rest = (λ m. h.0 (kept_has test xs x m).0, rest)
    cases false rest = rest

-- images are different if their originals are
pub once_mapped : {X Y : Type 0} (f : X → Y) (xs : List X) → ((x y : X) → Has x xs → Has y xs → f x ≡ f y → x ≡ y) → AreOnce xs → AreOnce (map f xs)
once_mapped f [] apart h = tt
once_mapped f (x ∷ xs) apart h = (
  λ m. (let (y, among, e) = image_has f xs (f x) m in h.0 (subst (λ z. Has z xs) (sym (apart x y (inl refl) (inr among) e)) among)),
  once_mapped f xs (λ y z m n e. apart y z (inr m) (inr n) e) h.1,
)

pub once_append : {X : Type 0} (xs ys : List X) → AreOnce xs → AreOnce ys → ((x : X) → Has x xs → Has x ys → ⊥) → AreOnce (xs ++ ys)
once_append [] ys a b apart = b
once_append (x ∷ xs) ys a b apart = (
  λ m. elim (Has-append x xs ys m) as (λ _. ⊥) [ inl k ↦ a.0 k | inr k ↦ apart x (inl refl) k ],
  once_append xs ys a.1 b (λ y m n. apart y (inr m) n),
)

-- ---- an item among others

pub has_split : {X : Type 0} (x : X) (xs : List X) → Has x xs → (before : List X) × (after : List X) × (xs ≡ before ++ x ∷ after)
has_split x [] m = absurd m
has_split {X} x (y ∷ ys) m =
    elim m as (λ _. (before : List X) × (after : List X) × (y ∷ ys ≡ before ++ x ∷ after)) [
      | inl e ↦ ([], ys, ap (λ (z : X). z ∷ ys) (sym e))
      | inr n ↦ (let (before, after, e) = has_split x ys n in (y ∷ before, after, ap (λ (zs : List X). y ∷ zs) e))
    ]

pub pair_later : {X : Type 0} (first : X) (xs : List X) (x y : X) → ArePair xs x y → ArePair (first ∷ xs) x y
pair_later {X} first xs x y pair = record { before = first ∷ pair.before; between = pair.between; after = pair.after; among = ap (λ (zs : List X). first ∷ zs) pair.among }

pair_first : {X : Type 0} (first : X) (xs : List X) (x y : X) → x ≡ first → Has y xs → ArePair (first ∷ xs) x y
pair_first {X} first xs x y e m =
    let (between, after, split) = has_split y xs m in
    record { before = []; between = between; after = after; among = ap₂ (λ (z : X) (zs : List X). z ∷ zs) (sym e) split }

-- two items are the same, or one comes before the other
pub same_or_pair : {X : Type 0} (xs : List X) (x y : X) → Has x xs → Has y xs → (x ≡ y) ⊎ (ArePair xs x y ⊎ ArePair xs y x)
same_or_pair [] x y m n = absurd m
same_or_pair (first ∷ xs) x y (inl e) (inl k) = inl (e ∙ sym k)
same_or_pair (first ∷ xs) x y (inl e) (inr n) = inr (inl (pair_first first xs x y e n))
same_or_pair (first ∷ xs) x y (inr m) (inl k) = inr (inr (pair_first first xs y x k m))
same_or_pair (first ∷ xs) x y (inr m) (inr n) =
    elim (same_or_pair xs x y m n) as (λ _. (x ≡ y) ⊎ (ArePair (first ∷ xs) x y ⊎ ArePair (first ∷ xs) y x)) [
      | inl e ↦ inl e
      | inr (inl pair) ↦ inr (inl (pair_later first xs x y pair))
      | inr (inr pair) ↦ inr (inr (pair_later first xs y x pair))
    ]

has_wider : {X : Type 0} (z x : X) (before after : List X) → Has z (before ++ after) → Has z (before ++ x ∷ after)
has_wider z x before after m =
    elim (Has-append z before after m) as (λ _. Has z (before ++ x ∷ after)) [ inl k ↦ Has-left z before (x ∷ after) k | inr k ↦ Has-right z before (x ∷ after) (inr k) ]

has_narrower : {X : Type 0} (z x : X) (before after : List X) → Has z (before ++ x ∷ after) → (z ≡ x) ⊎ Has z (before ++ after)
has_narrower z x before after m =
    elim (Has-append z before (x ∷ after) m) as (λ _. (z ≡ x) ⊎ Has z (before ++ after)) [
      | inl k ↦ inr (Has-left z before after k)
      | inr k ↦ elim k as (λ _. (z ≡ x) ⊎ Has z (before ++ after)) [ inl e ↦ inl e | inr n ↦ inr (Has-right z before after n) ]
    ]

once_around : {X : Type 0} (x : X) (before after : List X) → AreOnce (before ++ x ∷ after) → (Has x (before ++ after) → ⊥) × AreOnce (before ++ after)
once_around x [] after h = h
once_around x (y ∷ before) after h =
    let rest = once_around x before after h.1 in (
      λ m. elim m as (λ _. ⊥) [ inl e ↦ h.0 (subst (λ z. Has z (before ++ x ∷ after)) e (Has-right x before (x ∷ after) (inl refl))) | inr n ↦ rest.0 n ],
      (λ m. h.0 (has_wider y x before after m), rest.1),
    )

sum_around : {X : Type 0} (f : X → ℕ) (x : X) (before after : List X) → sum_by f (before ++ x ∷ after) ≡ f x + sum_by f (before ++ after)
sum_around f x before after =
    omega (arith, sum_by-append f before (x ∷ after), sum_by-cons f x after, sum_by-append f before after)

-- lists with the same items, each once, have the same sum
pub sum_same : {X : Type 0} (f : X → ℕ) (xs ys : List X) → AreOnce xs → AreOnce ys → ((x : X) → Has x xs → Has x ys) → ((x : X) → Has x ys → Has x xs) → sum_by f xs ≡ sum_by f ys
sum_same f [] [] a b to back = refl
sum_same f [] (y ∷ ys) a b to back = absurd (back y (inl refl))
sum_same {X} f (x ∷ xs) ys a b to back =
    let (before, after, e) = has_split x ys (to x (inl refl)) in
    let around = once_around x before after (subst AreOnce e b) in
    let rest : sum_by f xs ≡ sum_by f (before ++ after) =
    sum_same f xs (before ++ after) a.1 around.1
    (λ z m. elim (has_narrower z x before after (subst (λ (zs : List X). Has z zs) e (to z (inr m)))) as (λ _. Has z (before ++ after)) [
      | inl k ↦ absurd (a.0 (subst (λ (y : X). Has y xs) k m))
      | inr n ↦ n
    ])
    (λ z m. elim (back z (subst (λ (zs : List X). Has z zs) (sym e) (has_wider z x before after m))) as (λ _. Has z xs) [
      | inl k ↦ absurd (around.0 (subst (λ (y : X). Has y (before ++ after)) k m))
      | inr n ↦ n
    ]) in
    sum_by-cons f x xs ∙ (ap (λ (n : ℕ). f x + n) rest ∙ (sym (sum_around f x before after) ∙ ap (sum_by f) (sym e)))
