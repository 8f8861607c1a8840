-- Equality of trees, and what holds of a tree whose parts are known.
use Rattle.std.proofs.Common.{◌≡◌, ℕ, ◌≤◌, Bool, true, false, ◌&&◌, eqb, refl, subst, arith, eq-eqb}
use Rattle.std.proofs.lemmas.Bool.{eqb-true}
use Rattle.std.specs.Cmp.{IsEquivalence, decided}
use Rattle.func_core.specs.Trees.{Tree, Zero, One, Node, IsReduced}
use Rattle.func_core.specs.Sizes.{tree_eq}

pub tree_eq-refl : (t : Tree) → tree_eq t t ≡ true
unfolding tree_eq
tree_eq-refl Zero = refl
tree_eq-refl One = refl
tree_eq-refl (Node v lo hi) = rw (eq-eqb v v refl, tree_eq-refl lo, tree_eq-refl hi) refl

and-first : (a b : Bool) → (a && b) ≡ true → a ≡ true
and-first true b h = refl
and-first false b h = h

and-second : (a b : Bool) → (a && b) ≡ true → b ≡ true
and-second true b h = h
and-second false b h = cc

pub tree_eq-same : (t u : Tree) → tree_eq t u ≡ true → t ≡ u
unfolding tree_eq
tree_eq-same Zero Zero h = refl
tree_eq-same Zero One h = cc
tree_eq-same Zero (Node w c d) h = cc
tree_eq-same One Zero h = cc
tree_eq-same One One h = refl
tree_eq-same One (Node w c d) h = cc
tree_eq-same (Node v a b) Zero h = cc
tree_eq-same (Node v a b) One h = cc
tree_eq-same (Node v a b) (Node w c d) h =
    let rest : (tree_eq a c && tree_eq b d) ≡ true = and-second (eqb v w) (tree_eq a c && tree_eq b d) h in
    let e : v ≡ w = eqb-true v w (and-first (eqb v w) (tree_eq a c && tree_eq b d) h) in
    let f : a ≡ c = tree_eq-same a c (and-first (tree_eq a c) (tree_eq b d) rest) in
    let g : b ≡ d = tree_eq-same b d (and-second (tree_eq a c) (tree_eq b d) rest) in
    cc

pub tree_eq-other : (t u : Tree) → tree_eq t u ≡ false → t ≡ u → ⊥
tree_eq-other t u h e =
    let k : tree_eq t u ≡ true = subst (λ (v : Tree). tree_eq t v ≡ true) e (tree_eq-refl t) in
    cc

pub tree_eq-laws : IsEquivalence tree_eq
tree_eq-laws =
    decided tree_eq (λ t u. (tree_eq-same t u, λ e. subst (λ (v : Tree). tree_eq t v ≡ true) e (tree_eq-refl t)))

pub IsReduced-weaker : (least more : ℕ) (t : Tree) → least ≤ more → IsReduced more t → IsReduced least t
unfolding IsReduced
IsReduced-weaker least more Zero h r = tt
IsReduced-weaker least more One h r = tt
IsReduced-weaker least more (Node place lo hi) h r =
    let k : more ≤ place = r.0 in
    (omega arith, r.1, r.2, r.3)
