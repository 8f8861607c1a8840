-- Inner subtrees, and how many different ones there are.
use Rattle.std.proofs.Common.{◌≡◌, ℕ, ◌≤◌, Bool, true, false, ◌||◌, cond, List, [], ◌∷◌, ◌++◌, length, refl, sym, ap, ◌∙◌, subst, inl, inr, ◌⊎◌}
use Rattle.std.specs.List.{AllByRecursion, IsDistinct, list_any}
use Rattle.std.specs.Set.{is_member, unique_keys}
use Rattle.std.proofs.lemmas.Bool.{false≢true, or_left, or_right}
use Rattle.std.proofs.lemmas.List.Folds.{list_any-append}
use Rattle.std.proofs.lemmas.Map.Made.{length-le_from_is_member}
use Rattle.std.proofs.lemmas.Map.Steps.{list_any_congr}
use Rattle.func_core.specs.Trees.{Tree, Zero, One, Node}
use Rattle.func_core.specs.Sizes.{tree_eq, inner, size}
use Rattle.func_core.proofs.Trees.{tree_eq-refl, tree_eq-same, tree_eq-laws}

pub or_cases : (a b : Bool) → (a || b) ≡ true → (a ≡ true) ⊎ (b ≡ true)
or_cases true b e = inl refl
or_cases false b e = inr e

-- the inner subtrees of a node, one after another
pub inner-itself : (place : ℕ) (low high : Tree) →
    is_member tree_eq (inner (Node place low high)) (Node place low high) ≡ true
unfolding inner
inner-itself place low high = or_left _ _ (tree_eq-refl (Node place low high))

pub inner-low : (place : ℕ) (low high s : Tree) → is_member tree_eq (inner low) s ≡ true →
    is_member tree_eq (inner (Node place low high)) s ≡ true
unfolding inner
inner-low place low high s e =
    or_right _ _ (list_any-append (tree_eq s) (inner low) (inner high) ∙ or_left _ _ e)

pub inner-high : (place : ℕ) (low high s : Tree) → is_member tree_eq (inner high) s ≡ true →
    is_member tree_eq (inner (Node place low high)) s ≡ true
unfolding inner
inner-high place low high s e =
    or_right _ _ (list_any-append (tree_eq s) (inner low) (inner high) ∙ or_right _ _ e)

pub inner-cases : (place : ℕ) (low high s : Tree) →
    is_member tree_eq (inner (Node place low high)) s ≡ true →
    (s ≡ Node place low high) ⊎ ((is_member tree_eq (inner low) s ≡ true) ⊎
    (is_member tree_eq (inner high) s ≡ true))
unfolding inner
inner-cases place low high s e =
    elim (or_cases (tree_eq s (Node place low high))
    (list_any (tree_eq s) (inner low ++ inner high)) e)
    as (λ _. (s ≡ Node place low high) ⊎
    ((is_member tree_eq (inner low) s ≡ true) ⊎ (is_member tree_eq (inner high) s ≡ true))) [
      | inl same ↦ inl (tree_eq-same s (Node place low high) same)
      | inr rest ↦ inr
          (or_cases (is_member tree_eq (inner low) s) (is_member tree_eq (inner high) s)
          (sym (list_any-append (tree_eq s) (inner low) (inner high)) ∙ rest))
    ]

-- constants have none
pub inner-zero : (t s : Tree) → t ≡ Zero → is_member tree_eq (inner t) s ≡ true → ⊥
unfolding inner
inner-zero t s e m = false≢true (subst (λ (u : Tree). is_member tree_eq (inner u) s ≡ true) e m)

pub inner-one : (t s : Tree) → t ≡ One → is_member tree_eq (inner t) s ≡ true → ⊥
unfolding inner
inner-one t s e m = false≢true (subst (λ (u : Tree). is_member tree_eq (inner u) s ≡ true) e m)

-- the inner subtrees of an inner subtree are the tree's
pub inner_through : (t s r : Tree) → is_member tree_eq (inner t) s ≡ true →
    is_member tree_eq (inner s) r ≡ true → is_member tree_eq (inner t) r ≡ true
inner_through Zero s r p q = absurd (inner-zero Zero s refl p)
inner_through One s r p q = absurd (inner-one One s refl p)
inner_through (Node place low high) s r p q =
    cases (inner-cases place low high s p) (inner_through low s r) (inner_through high s r)
  where
    cases : (s ≡ Node place low high) ⊎
        ((is_member tree_eq (inner low) s ≡ true) ⊎ (is_member tree_eq (inner high) s ≡ true)) →
        (is_member tree_eq (inner low) s ≡ true → is_member tree_eq (inner s) r ≡ true →
        is_member tree_eq (inner low) r ≡ true) →
        (is_member tree_eq (inner high) s ≡ true → is_member tree_eq (inner s) r ≡ true →
        is_member tree_eq (inner high) r ≡ true) →
        is_member tree_eq (inner (Node place low high)) r ≡ true
    cases (inl e) f g = subst (λ (u : Tree). is_member tree_eq (inner u) r ≡ true) e q
    cases (inr (inl m)) f g = inner-low place low high r (f m q)
    cases (inr (inr m)) f g = inner-high place low high r (g m q)

-- the different ones of a list of trees
unique-member : (ts : List Tree) (t : Tree) →
    is_member tree_eq (unique_keys tree_eq ts) t ≡ is_member tree_eq ts t
unique-member [] t = refl
unique-member (u ∷ us) t = cases (is_member tree_eq us u) (tree_eq t u) refl refl
    (unique-member us t)
  where
    cases : (b c : Bool) → is_member tree_eq us u ≡ b → tree_eq t u ≡ c →
        is_member tree_eq (unique_keys tree_eq us) t ≡ is_member tree_eq us t →
        is_member tree_eq (cond b (unique_keys tree_eq us) (u ∷ unique_keys tree_eq us)) t ≡
        (c || is_member tree_eq us t)
    cases true true m e h = h ∙ list_any_congr tree_eq-laws t u us e ∙ m
    cases true false m e h = h
    cases false c m e h = rw e (ap (λ (b : Bool). c || b) h)

apart_from_absent : (u : Tree) (ts : List Tree) → is_member tree_eq ts u ≡ false →
    AllByRecursion (λ t. tree_eq u t ≡ false) ts
apart_from_absent u [] e = tt
apart_from_absent u (t ∷ ts) e = (
  first (tree_eq u t) (is_member tree_eq ts u) e,
  apart_from_absent u ts
      (second (tree_eq u t) (is_member tree_eq ts u) e),
)
  where
    first : (a b : Bool) → (a || b) ≡ false → a ≡ false
    first true b h = h
    first false b h = refl

    second : (a b : Bool) → (a || b) ≡ false → b ≡ false
    second true b h = absurd (false≢true (sym h))
    second false b h = h

unique-distinct : (ts : List Tree) → IsDistinct tree_eq (unique_keys tree_eq ts)
unfolding IsDistinct
unique-distinct [] = tt
unique-distinct (u ∷ us) = cases (is_member tree_eq us u) refl (unique-distinct us)
  where
    cases : (b : Bool) → is_member tree_eq us u ≡ b → IsDistinct tree_eq (unique_keys tree_eq us) →
        IsDistinct tree_eq (cond b (unique_keys tree_eq us) (u ∷ unique_keys tree_eq us))
    cases true m h = h
    cases false m h = (apart_from_absent u (unique_keys tree_eq us) (unique-member us u ∙ m), h)

-- the size of a tree is at most the length of a list that has its inner subtrees
pub size-within : (t : Tree) (ts : List Tree) →
    ((s : Tree) → is_member tree_eq (inner t) s ≡ true → is_member tree_eq ts s ≡ true) →
    size t ≤ length ts
unfolding size
size-within t ts h =
    length-le_from_is_member tree_eq-laws (unique_keys tree_eq (inner t)) ts
    (unique-distinct (inner t))
    (λ s m. h s (sym (unique-member (inner t) s) ∙ m))

-- the number of different trees among its inner subtrees is at most its size
pub size-above : (t : Tree) (ts : List Tree) → IsDistinct tree_eq ts →
    ((s : Tree) → is_member tree_eq ts s ≡ true → is_member tree_eq (inner t) s ≡ true) →
    length ts ≤ size t
unfolding size
size-above t ts d h =
    length-le_from_is_member tree_eq-laws ts (unique_keys tree_eq (inner t)) d
    (λ s m. unique-member (inner t) s ∙ h s m)

-- an inner subtree is at most as large
pub inner_smaller : (t s : Tree) → is_member tree_eq (inner t) s ≡ true → size s ≤ size t
unfolding size
inner_smaller t s m =
    length-le_from_is_member tree_eq-laws (unique_keys tree_eq (inner s))
    (unique_keys tree_eq (inner t)) (unique-distinct (inner s))
    (λ r p. unique-member (inner t) r ∙ inner_through t s r m (sym (unique-member (inner s) r) ∙ p))
