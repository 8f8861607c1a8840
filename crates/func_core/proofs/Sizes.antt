-- A list that grows by different subtrees, and its length at the end.
use Rattle.std.proofs.Common.{◌≡◌, ℕ, Bool, true, false, ◌||◌, List, [], ◌∷◌, ◌++◌, length, refl, ap, sym, ◌∙◌, subst}
use Rattle.std.specs.Set.{is_member}
use Rattle.std.specs.List.{AllByRecursion, IsDistinct}
use Rattle.std.proofs.lemmas.List.Folds.{list_any-append}
use Rattle.std.proofs.lemmas.Map.Made.{length-from_keys}
use Rattle.std.proofs.lemmas.Map.Steps.{list_any_congr}
use Rattle.std.proofs.Math.Bool.{or-false, or_assoc}
use Rattle.func_core.specs.Trees.{Tree, Zero, One, Node}
use Rattle.func_core.specs.Sizes.{tree_eq, inner, size}
use Rattle.func_core.specs.PlainTrees.{Adds}
use Rattle.func_core.proofs.Trees.{tree_eq-laws}

pub Adds-none : (seen : List Tree) → Adds seen [] seen
Adds-none seen = record { once = λ h. h; members = λ t. sym (or-false (is_member tree_eq seen t)) }

-- a tree that is there brings nothing new
pub Adds-there : (seen : List Tree) (t : Tree) → is_member tree_eq seen t ≡ true → Adds seen (t ∷ []) seen
Adds-there seen t there =
    record { once = λ h. h; members = λ u. cases u (tree_eq u t) refl (is_member tree_eq seen u) refl }
  where
    cases : (u : Tree) (same : Bool) → tree_eq u t ≡ same → (b : Bool) → is_member tree_eq seen u ≡ b → b ≡ (b || (same || false))
    cases u true e true f = refl
    cases u true e false f =
        let g : is_member tree_eq seen u ≡ true = list_any_congr tree_eq-laws u t seen e ∙ there in
        cc
    cases u false e true f = refl
    cases u false e false f = refl

-- one more at the end
IsDistinct-more : (seen : List Tree) (t : Tree) → IsDistinct tree_eq seen → is_member tree_eq seen t ≡ false →
    IsDistinct tree_eq (seen ++ t ∷ [])
unfolding IsDistinct
IsDistinct-more [] t d n = (tt, tt)
IsDistinct-more (u ∷ us) t d n =
    (apart us d.0, IsDistinct-more us t d.1 (second (tree_eq t u) (is_member tree_eq us t) n))
  where
    first : (a b : Bool) → (a || b) ≡ false → a ≡ false
    first true b h = h
    first false b h = refl

    second : (a b : Bool) → (a || b) ≡ false → b ≡ false
    second true b h = cc
    second false b h = h

    apart : (vs : List Tree) → AllByRecursion (λ v. tree_eq u v ≡ false) vs →
        AllByRecursion (λ v. tree_eq u v ≡ false) (vs ++ t ∷ [])
    apart [] h = (tree_eq-laws.symm u t ∙ first (tree_eq t u) (is_member tree_eq us t) n, tt)
    apart (v ∷ vs) h = (h.0, apart vs h.1)

pub Adds-new : (seen : List Tree) (t : Tree) → is_member tree_eq seen t ≡ false → Adds seen (t ∷ []) (seen ++ t ∷ [])
Adds-new seen t n = record {
  once = λ d. IsDistinct-more seen t d n;
  members = λ u. list_any-append (tree_eq u) seen (t ∷ []);
}

pub Adds-chain : (seen first some second all : List Tree) → Adds seen first some → Adds some second all →
    Adds seen (first ++ second) all
Adds-chain seen first some second all a b = record {
  once = λ d. b.once (a.once d);
  members = λ t.
      b.members t
      ∙ ap (λ (c : Bool). c || is_member tree_eq second t) (a.members t)
      ∙ or_assoc (is_member tree_eq seen t) (is_member tree_eq first t) (is_member tree_eq second t)
      ∙ ap (λ (c : Bool). is_member tree_eq seen t || c) (sym (list_any-append (tree_eq t) first second));
}

-- a node, its first half's inner subtrees, and its second half's, one after another
pub Adds-inner : (seen first second third : List Tree) (place : ℕ) (lo hi low high t : Tree) →
    t ≡ Node place lo hi → low ≡ lo → high ≡ hi →
    Adds seen (t ∷ []) first → Adds first (inner low) second → Adds second (inner high) third →
    Adds seen (inner t) third
unfolding inner
Adds-inner seen first second third place lo hi low high t is p q a b d =
    subst (λ (u : Tree). Adds seen (inner u) third) (sym is)
    (Adds-chain seen (Node place lo hi ∷ []) first (inner lo ++ inner hi) third
    (subst (λ (u : Tree). Adds seen (u ∷ []) first) is a)
    (Adds-chain first (inner lo) second (inner hi) third
    (subst (λ (u : Tree). Adds first (inner u) second) p b)
    (subst (λ (u : Tree). Adds second (inner u) third) q d)))

pub Adds-leaf : (seen : List Tree) (t : Tree) → inner t ≡ [] → Adds seen (inner t) seen
Adds-leaf seen t e = subst (λ (us : List Tree). Adds seen us seen) (sym e) (Adds-none seen)

pub inner-Zero : (t : Tree) → t ≡ Zero → inner t ≡ []
unfolding inner
inner-Zero t e = ap inner e

pub inner-One : (t : Tree) → t ≡ One → inner t ≡ []
unfolding inner
inner-One t e = ap inner e

-- different subtrees, all of a tree's, are as many as it is large
pub size-counted : (t : Tree) (all : List Tree) → IsDistinct tree_eq all →
    ((u : Tree) → is_member tree_eq all u ≡ is_member tree_eq (inner t) u) → length all ≡ size t
unfolding size
size-counted t all d h = length-from_keys tree_eq-laws all (inner t) d h

-- so are those that are collected from nothing
pub size-collected : (t : Tree) (all : List Tree) → Adds [] (inner t) all → length all ≡ size t
unfolding IsDistinct
size-collected t all a = size-counted t all (a.once tt) a.members
