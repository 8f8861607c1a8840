-- The tree of a complement is the function's tree with its leaves exchanged, and so has its size.
use Rattle.std.proofs.Common.{◌≡◌, ℕ, suc, Bool, true, false, not, ◌&&◌, ◌==◌, cond, List, [], ◌∷◌, ◌++◌, map, length, if◌then◌else◌, refl, ap, sym, ◌∙◌}
use Rattle.std.specs.Set.{is_member, unique_keys}
use Rattle.std.proofs.lemmas.List.{map-append, length-map}
use Rattle.func_core.specs.Trees.{Tree, Zero, One, Node, eval, IsReduced}
use Rattle.func_core.specs.Sizes.{tree_eq, inner, size}

-- the leaves exchanged
abbrev pub flip : Tree → Tree
flip Zero = One
flip One = Zero
flip (Node place lo hi) = Node place (flip lo) (flip hi)

flip-flip : (t : Tree) → flip (flip t) ≡ t
flip-flip Zero = refl
flip-flip One = refl
flip-flip (Node place lo hi) =
    ap (λ (u : Tree). Node place u (flip (flip hi))) (flip-flip lo) ∙ ap (Node place lo) (flip-flip hi)

flip-same : (t u : Tree) → flip t ≡ flip u → t ≡ u
flip-same t u e = sym (flip-flip t) ∙ ap flip e ∙ flip-flip u

pub IsReduced-flip : (least : ℕ) (t : Tree) → IsReduced least t → IsReduced least (flip t)
unfolding IsReduced
IsReduced-flip least Zero r = tt
IsReduced-flip least One r = tt
IsReduced-flip least (Node place lo hi) r =
    (r.0, λ e. r.1 (flip-same lo hi e), IsReduced-flip (suc place) lo r.2, IsReduced-flip (suc place) hi r.3)

pub eval-flip : (t : Tree) (point : ℕ → Bool) → eval (flip t) point ≡ not (eval t point)
unfolding eval
eval-flip Zero point = refl
eval-flip One point = refl
eval-flip (Node place lo hi) point = cases (point place) (eval-flip lo point) (eval-flip hi point)
  where
    cases : (b : Bool) → eval (flip lo) point ≡ not (eval lo point) → eval (flip hi) point ≡ not (eval hi point) →
        (if b then eval (flip hi) point else eval (flip lo) point) ≡ not (if b then eval hi point else eval lo point)
    cases true p q = q
    cases false p q = p

tree_eq-flip : (t u : Tree) → tree_eq (flip t) (flip u) ≡ tree_eq t u
unfolding tree_eq
tree_eq-flip Zero Zero = refl
tree_eq-flip Zero One = refl
tree_eq-flip Zero (Node w c d) = refl
tree_eq-flip One Zero = refl
tree_eq-flip One One = refl
tree_eq-flip One (Node w c d) = refl
tree_eq-flip (Node v a b) Zero = refl
tree_eq-flip (Node v a b) One = refl
tree_eq-flip (Node v a b) (Node w c d) =
    ap (λ (x : Bool). v == w && (x && tree_eq (flip b) (flip d))) (tree_eq-flip a c)
    ∙ ap (λ (x : Bool). v == w && (tree_eq a c && x)) (tree_eq-flip b d)

is_member-flip : (us : List Tree) (t : Tree) → is_member tree_eq (map flip us) (flip t) ≡ is_member tree_eq us t
is_member-flip [] t = refl
is_member-flip (u ∷ us) t = rw (tree_eq-flip t u, is_member-flip us t) refl

unique_keys-flip : (us : List Tree) → unique_keys tree_eq (map flip us) ≡ map flip (unique_keys tree_eq us)
unique_keys-flip [] = refl
unique_keys-flip (u ∷ us) =
    cases (is_member tree_eq us u) (is_member tree_eq (map flip us) (flip u)) (is_member-flip us u) (unique_keys-flip us)
  where
    cases : (b c : Bool) → c ≡ b → unique_keys tree_eq (map flip us) ≡ map flip (unique_keys tree_eq us) →
        cond c (unique_keys tree_eq (map flip us)) (flip u ∷ unique_keys tree_eq (map flip us))
        ≡ map flip (cond b (unique_keys tree_eq us) (u ∷ unique_keys tree_eq us))
    cases true true e h = h
    cases true false e h = cc
    cases false true e h = cc
    cases false false e h = ap (λ (ts : List Tree). flip u ∷ ts) h

inner-flip : (t : Tree) → inner (flip t) ≡ map flip (inner t)
unfolding inner
inner-flip Zero = refl
inner-flip One = refl
inner-flip (Node place lo hi) =
    ap (λ (ts : List Tree). Node place (flip lo) (flip hi) ∷ (ts ++ inner (flip hi))) (inner-flip lo)
    ∙ ap (λ (ts : List Tree). Node place (flip lo) (flip hi) ∷ (map flip (inner lo) ++ ts)) (inner-flip hi)
    ∙ ap (λ (ts : List Tree). Node place (flip lo) (flip hi) ∷ ts) (sym (map-append flip (inner lo) (inner hi)))

pub size-flip : (t : Tree) → size (flip t) ≡ size t
unfolding size
size-flip t =
    ap (λ (ts : List Tree). length (unique_keys tree_eq ts)) (inner-flip t)
    ∙ ap (λ (ts : List Tree). length ts) (unique_keys-flip (inner t))
    ∙ length-map (unique_keys tree_eq (inner t)) flip
