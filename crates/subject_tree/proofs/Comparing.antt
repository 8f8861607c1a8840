-- The order of trees is total, and how it is found from numbered vertices.
use Rattle.std.proofs.Common.{◌≡◌, ℕ, zero, suc, ◌<◌, ◌==◌, Bool, true, false, if◌then◌else◌, List, [], ◌∷◌, length, bytes_eq, Less, Equal, Greater, refl, sym, ap, ◌∙◌, subst, inl, inr, ◌⊎◌, arith}
use Rattle.std.specs.Ordering.{ordering_then, ordering_reverse, nat_cmp}
use Rattle.std.specs.Cmp.{IsTotalOrder, then_total, on_total, nat_cmp_total, tied_itself}
use Rattle.std.specs.declared.cmp.Ordering.{Ordering}
use Rattle.std.proofs.lemmas.Cmp.{nat_list_cmp_total}
use Rattle.std.proofs.lemmas.Map.Lookups.{CmpEqualImpliesEq, exact_unsigned, exact_bytes}
use Rattle.std.proofs.lemmas.Bool.{or_parts}
use borrow.Author.Tests.{eqb-true, eqb-false}
use Rattle.circuit_model.specs.Names.{has, all_different}
use Rattle.circuit_laws.proofs.Names.{name_apart, different_head, different_tail}
use Rattle.subject_tree.specs.Trees.{Tree, Leaf, Inv, Nand, renamed}
use Rattle.subject_tree.specs.Order.{tree_cmp, name_cmp, name_at, place_cmp, LeavesBelow}
use Rattle.subject_tree.specs.Arenas.{trees, tree_at, built, vertex_at, IsOver, IsArena}
use Rattle.subject_tree.specs.Steps.{next}
use Rattle.subject_tree.specs.declared.order.Next.{Next}
use Rattle.subject_tree.specs.declared.order.Next.TheVariants.{Done, Below}
use Rattle.subject_tree.specs.declared.arena.Vertex.{Vertex}
use Rattle.subject_tree.specs.declared.arena.Vertex.TheVariants.{Leaf as AtLeaf, Inv as AtInv, Nand as AtNand}
use Rattle.subject_tree.proofs.Arenas.{reads_all, over_all}

-- places compare totally, and only one place is equal to itself
pub place_total : (names : List (List ℕ)) → IsTotalOrder (place_cmp names)
place_total names = then_total (on_total (name_at names) nat_list_cmp_total) nat_cmp_total

then_equal : (a b : Ordering) → ordering_then a b ≡ Equal → (a ≡ Equal) × (b ≡ Equal)
then_equal Less b e = absurd (let x : ⊥ = cc in x)
then_equal Equal b e = (refl, e)
then_equal Greater b e = absurd (let x : ⊥ = cc in x)

then_less : (a b : Ordering) → ordering_then a b ≡ Less → (a ≡ Less) ⊎ ((a ≡ Equal) × (b ≡ Less))
then_less Less b e = inl refl
then_less Equal b e = inr (refl, e)
then_less Greater b e = absurd (let x : ⊥ = cc in x)

then_reverse : (c b d : Ordering) → b ≡ ordering_reverse d → ordering_then (ordering_reverse c) b ≡ ordering_reverse (ordering_then c d)
then_reverse Less b d e = refl
then_reverse Equal b d e = e
then_reverse Greater b d e = refl

then_first : (r s : Ordering) → (r ≡ Equal → ⊥) → ordering_then r s ≡ r
then_first Less s apart = refl
then_first Equal s apart = absurd (apart refl)
then_first Greater s apart = refl

pub place_exact : (names : List (List ℕ)) → CmpEqualImpliesEq (place_cmp names)
place_exact names m n e = exact_unsigned m n (then_equal _ _ e).1

module _ {A : Type 0} (cmp : A → A → Ordering) (total : IsTotalOrder cmp) (exact : CmpEqualImpliesEq cmp) where
  pub tree_exact : (t u : Tree A) → tree_cmp cmp t u ≡ Equal → t ≡ u
  unfolding tree_cmp
  tree_exact (Leaf x) (Leaf y) e = ap (λ (z : A). Leaf z) (exact x y e)
  tree_exact (Leaf x) (Inv v) e = cc
  tree_exact (Leaf x) (Nand v w) e = cc
  tree_exact (Inv t) (Leaf y) e = cc
  tree_exact (Inv t) (Inv v) e = ap (λ (z : Tree A). Inv z) (tree_exact t v e)
  tree_exact (Inv t) (Nand v w) e = cc
  tree_exact (Nand t u) (Leaf y) e = cc
  tree_exact (Nand t u) (Inv v) e = cc
  tree_exact (Nand t u) (Nand v w) e =
      let (p, q) = then_equal _ _ e in
      ap (λ (z : Tree A). Nand z u) (tree_exact t v p) ∙ ap (λ (z : Tree A). Nand v z) (tree_exact u w q)

  pub tree_antisymm : (t u : Tree A) → tree_cmp cmp t u ≡ ordering_reverse (tree_cmp cmp u t)
  unfolding tree_cmp
  tree_antisymm (Leaf x) (Leaf y) = total.antisymm x y
  tree_antisymm (Leaf x) (Inv v) = refl
  tree_antisymm (Leaf x) (Nand v w) = refl
  tree_antisymm (Inv t) (Leaf y) = refl
  tree_antisymm (Inv t) (Inv v) = tree_antisymm t v
  tree_antisymm (Inv t) (Nand v w) = refl
  tree_antisymm (Nand t u) (Leaf y) = refl
  tree_antisymm (Nand t u) (Inv v) = refl
  tree_antisymm (Nand t u) (Nand v w) =
      ap (λ (r : Ordering). ordering_then r (tree_cmp cmp u w)) (tree_antisymm t v) ∙ then_reverse (tree_cmp cmp v t) (tree_cmp cmp u w) (tree_cmp cmp w u) (tree_antisymm u w)

  -- the last step of a chain of NANDs
  nand_trans : (t u v w x y : Tree A) → (tree_cmp cmp t v ≡ Less → tree_cmp cmp v x ≡ Less → tree_cmp cmp t x ≡ Less) → (tree_cmp cmp u w ≡ Less → tree_cmp cmp w y ≡ Less → tree_cmp cmp u y ≡ Less)
      → ordering_then (tree_cmp cmp t v) (tree_cmp cmp u w) ≡ Less → ordering_then (tree_cmp cmp v x) (tree_cmp cmp w y) ≡ Less → ordering_then (tree_cmp cmp t x) (tree_cmp cmp u y) ≡ Less
  nand_trans t u v w x y left right p q = elim (then_less (tree_cmp cmp t v) (tree_cmp cmp u w) p) as (λ _. ordering_then (tree_cmp cmp t x) (tree_cmp cmp u y) ≡ Less) [
    | inl a ↦ elim (then_less (tree_cmp cmp v x) (tree_cmp cmp w y) q) as (λ _. ordering_then (tree_cmp cmp t x) (tree_cmp cmp u y) ≡ Less) [
      | inl b ↦ ap (λ (r : Ordering). ordering_then r (tree_cmp cmp u y)) (left a b)
      | inr (b, d) ↦
          ap (λ (r : Ordering). ordering_then r (tree_cmp cmp u y)) (ap (tree_cmp cmp t) (sym (tree_exact v x b)) ∙ a)
    ]
    | inr (a, c) ↦ elim (then_less (tree_cmp cmp v x) (tree_cmp cmp w y) q) as (λ _. ordering_then (tree_cmp cmp t x) (tree_cmp cmp u y) ≡ Less) [
      | inl b ↦
          ap (λ (r : Ordering). ordering_then r (tree_cmp cmp u y)) (ap (λ (z : Tree A). tree_cmp cmp z x) (tree_exact t v a) ∙ b)
      | inr (b, d) ↦
          ap (λ (r : Ordering). ordering_then r (tree_cmp cmp u y)) (ap (tree_cmp cmp t) (sym (tree_exact v x b)) ∙ a) ∙ right c d
    ]
  ]

  pub tree_trans : (t u v : Tree A) → tree_cmp cmp t u ≡ Less → tree_cmp cmp u v ≡ Less → tree_cmp cmp t v ≡ Less
  unfolding tree_cmp
  tree_trans (Leaf x) (Leaf y) (Leaf z) p q = total.trans x y z p q
  tree_trans (Leaf x) (Inv y) (Leaf z) p q = cc
  tree_trans (Leaf x) (Nand y w) (Leaf z) p q = cc
  tree_trans (Leaf x) u (Inv z) p q = refl
  tree_trans (Leaf x) u (Nand z w) p q = refl
  tree_trans (Inv x) (Leaf y) v p q = cc
  tree_trans (Inv x) (Inv y) (Leaf z) p q = cc
  tree_trans (Inv x) (Inv y) (Inv z) p q = tree_trans x y z p q
  tree_trans (Inv x) (Inv y) (Nand z w) p q = refl
  tree_trans (Inv x) (Nand y k) (Leaf z) p q = cc
  tree_trans (Inv x) (Nand y k) (Inv z) p q = cc
  tree_trans (Inv x) (Nand y k) (Nand z w) p q = refl
  tree_trans (Nand t u) (Leaf y) x p q = cc
  tree_trans (Nand t u) (Inv y) x p q = cc
  tree_trans (Nand t u) (Nand v w) (Leaf z) p q = cc
  tree_trans (Nand t u) (Nand v w) (Inv z) p q = cc
  tree_trans (Nand t u) (Nand v w) (Nand x y) p q =
      nand_trans t u v w x y (tree_trans t v x) (tree_trans u w y) p q

  pub tree_total : IsTotalOrder (tree_cmp cmp)
  tree_total = record {
    antisymm = tree_antisymm;
    trans = tree_trans;
    congr = λ x y z e. ap (λ (t : Tree A). tree_cmp cmp t z) (tree_exact x y e);
  }

  pub tree_itself : (t : Tree A) → tree_cmp cmp t t ≡ Equal
  tree_itself t = tied_itself tree_total t

-- what one look at two vertices with different numbers tells
pub record Tells (cmp : ℕ → ℕ → Ordering) (vs : List Vertex) (m n : ℕ) (told : Next) : Type 0 where
  pub done : (r : Ordering) → told ≡ Done r → tree_cmp cmp (tree_at vs m) (tree_at vs n) ≡ r
  pub below : (i j : ℕ) → told ≡ Below i j → (i < m) × (tree_cmp cmp (tree_at vs m) (tree_at vs n) ≡ tree_cmp cmp (tree_at vs i) (tree_at vs j))

module _ (cmp : ℕ → ℕ → Ordering) (total : IsTotalOrder cmp) (exact : CmpEqualImpliesEq cmp) (vs : List Vertex) (arena : IsArena vs) where
  at_both : (m n : ℕ) (t u : Tree ℕ) → tree_at vs m ≡ t → tree_at vs n ≡ u → tree_cmp cmp (tree_at vs m) (tree_at vs n) ≡ tree_cmp cmp t u
  at_both m n t u e f =
      ap (λ (z : Tree ℕ). tree_cmp cmp z (tree_at vs n)) e ∙ ap (tree_cmp cmp t) f

  finish : (m n : ℕ) (r : Ordering) → tree_cmp cmp (tree_at vs m) (tree_at vs n) ≡ r → Tells cmp vs m n (Done r)
  finish m n r is = record { done = λ s e. is ∙ (cc); below = λ i j e. absurd (let x : ⊥ = cc in x) }

  go_on : (m n i j : ℕ) → i < m → tree_cmp cmp (tree_at vs m) (tree_at vs n) ≡ tree_cmp cmp (tree_at vs i) (tree_at vs j) → Tells cmp vs m n (Below i j)
  go_on m n i j lt is = record {
    done = λ r e. absurd (let x : ⊥ = cc in x);
    below = λ k l e.
        let first : i ≡ k = cc in
        let second : j ≡ l = cc in (
          subst (λ (a : ℕ). a < m) first lt,
          is ∙ (ap (λ (a : ℕ). tree_cmp cmp (tree_at vs a) (tree_at vs j)) first ∙ ap (λ (a : ℕ). tree_cmp cmp (tree_at vs k) (tree_at vs a)) second),
        );
  }

  looked : (m n : ℕ) (v w : Vertex) → IsOver m v → IsOver (length vs) v → IsOver (length vs) w → tree_at vs m ≡ built (trees vs) v → tree_at vs n ≡ built (trees vs) w
      → Tells cmp vs m n (next cmp v w)
  unfolding tree_cmp
  looked m n (AtLeaf i) (AtLeaf j) over p q e f = finish m n (cmp i j) (at_both m n (Leaf i) (Leaf j) e f)
  looked m n (AtLeaf i) (AtInv j) over p q e f = finish m n Less (at_both m n (Leaf i) (Inv (tree_at vs j)) e f)
  looked m n (AtLeaf i) (AtNand k j) over p q e f = finish m n Less (at_both m n (Leaf i) (Nand (tree_at vs k) (tree_at vs j)) e f)
  looked m n (AtInv i) (AtLeaf j) over p q e f = finish m n Greater (at_both m n (Inv (tree_at vs i)) (Leaf j) e f)
  looked m n (AtInv i) (AtInv j) over p q e f = go_on m n i j over (at_both m n (Inv (tree_at vs i)) (Inv (tree_at vs j)) e f)
  looked m n (AtInv i) (AtNand k j) over p q e f = finish m n Less (at_both m n (Inv (tree_at vs i)) (Nand (tree_at vs k) (tree_at vs j)) e f)
  looked m n (AtNand h i) (AtLeaf j) over p q e f = finish m n Greater (at_both m n (Nand (tree_at vs h) (tree_at vs i)) (Leaf j) e f)
  looked m n (AtNand h i) (AtInv j) over p q e f = finish m n Greater (at_both m n (Nand (tree_at vs h) (tree_at vs i)) (Inv (tree_at vs j)) e f)
  looked m n (AtNand h i) (AtNand k j) over p q e f = cases (h == k) refl
    where
      both : tree_cmp cmp (tree_at vs m) (tree_at vs n) ≡ ordering_then (tree_cmp cmp (tree_at vs h) (tree_at vs k)) (tree_cmp cmp (tree_at vs i) (tree_at vs j))
      both = at_both m n (Nand (tree_at vs h) (tree_at vs i)) (Nand (tree_at vs k) (tree_at vs j)) e f

      cases : (b : Bool) → (h == k) ≡ b → Tells cmp vs m n (if b then Below i j else Below h k)
      cases true same =
          let level : tree_cmp cmp (tree_at vs h) (tree_at vs k) ≡ Equal =
          ap (λ (a : ℕ). tree_cmp cmp (tree_at vs a) (tree_at vs k)) (eqb-true h k same) ∙ tree_itself cmp total exact (tree_at vs k) in
          go_on m n i j over.1 (both ∙ ap (λ (r : Ordering). ordering_then r (tree_cmp cmp (tree_at vs i) (tree_at vs j))) level)
      cases false other =
          go_on m n h k over.0
          (both ∙ then_first (tree_cmp cmp (tree_at vs h) (tree_at vs k)) (tree_cmp cmp (tree_at vs i) (tree_at vs j))
          (λ level. eqb-false h k other (arena.one h k p.0 q.0 (tree_exact cmp total exact (tree_at vs h) (tree_at vs k) level))))

pub told : (names : List (List ℕ)) (vs : List Vertex) (m n : ℕ) (v w : Vertex) → IsArena vs → v ≡ vertex_at vs m → w ≡ vertex_at vs n → Tells (place_cmp names) vs m n (next (place_cmp names) v w)
told names vs m n v w arena e f =
    looked (place_cmp names) (place_total names) (place_exact names) vs arena m n v w
    (subst (IsOver m) (sym e) (over_all vs arena m).0) (subst (IsOver (length vs)) (sym e) (over_all vs arena m).1) (subst (IsOver (length vs)) (sym f) (over_all vs arena n).1)
    (reads_all vs arena m ∙ ap (built (trees vs)) (sym e)) (reads_all vs arena n ∙ ap (built (trees vs)) (sym f))

pub level : (names : List (List ℕ)) (vs : List Vertex) (m n : ℕ) → m ≡ n → Equal ≡ tree_cmp (place_cmp names) (tree_at vs m) (tree_at vs n)
level names vs m n e =
    sym (tree_itself (place_cmp names) (place_total names) (place_exact names) (tree_at vs m)) ∙ ap (λ (k : ℕ). tree_cmp (place_cmp names) (tree_at vs m) (tree_at vs k)) e

-- the place of a name among different names
apart_at : (names : List (List ℕ)) (first : List ℕ) (n : ℕ) → has names first ≡ false → n < length names → first ≡ name_at names n → ⊥
apart_at [] first n new lt e = omega (arith, lt)
apart_at (name ∷ names) first zero new lt e = name_apart first name (or_parts (bytes_eq first name) (has names first) new).0 e
apart_at (name ∷ names) first (suc n) new lt e = apart_at names first n (or_parts (bytes_eq first name) (has names first) new).1 (omega (arith, lt)) e

one_place : (names : List (List ℕ)) (m n : ℕ) → all_different names ≡ true → m < length names → n < length names → name_at names m ≡ name_at names n → m ≡ n
one_place [] m n different p q e = absurd (omega (arith, p))
one_place (name ∷ names) zero zero different p q e = refl
one_place (name ∷ names) zero (suc n) different p q e = absurd (apart_at names name n (different_head name names different) (omega (arith, q)) e)
one_place (name ∷ names) (suc m) zero different p q e = absurd (apart_at names name m (different_head name names different) (omega (arith, p)) (sym e))
one_place (name ∷ names) (suc m) (suc n) different p q e =
    ap (λ (k : ℕ). suc k) (one_place names m n (different_tail name names different) (omega (arith, p)) (omega (arith, q)) e)

places_by_name : (names : List (List ℕ)) (m n : ℕ) → all_different names ≡ true → m < length names → n < length names → place_cmp names m n ≡ name_cmp (name_at names m) (name_at names n)
places_by_name names m n different p q = cases (name_cmp (name_at names m) (name_at names n)) refl
  where
    cases : (r : Ordering) → name_cmp (name_at names m) (name_at names n) ≡ r → ordering_then r (nat_cmp m n) ≡ r
    cases Less e = refl
    cases Equal e =
        let same : m ≡ n = one_place names m n different p q (exact_bytes (name_at names m) (name_at names n) e) in
        ap (nat_cmp m) (sym same) ∙ tied_itself nat_cmp_total m
    cases Greater e = refl

pub trees_by_name : (names : List (List ℕ)) (t u : Tree ℕ) → all_different names ≡ true → LeavesBelow (length names) t → LeavesBelow (length names) u
    → tree_cmp (place_cmp names) t u ≡ tree_cmp name_cmp (renamed (name_at names) t) (renamed (name_at names) u)
unfolding tree_cmp renamed LeavesBelow
trees_by_name names (Leaf m) (Leaf n) different p q = places_by_name names m n different p q
trees_by_name names (Leaf m) (Inv v) different p q = refl
trees_by_name names (Leaf m) (Nand v w) different p q = refl
trees_by_name names (Inv t) (Leaf n) different p q = refl
trees_by_name names (Inv t) (Inv v) different p q = trees_by_name names t v different p q
trees_by_name names (Inv t) (Nand v w) different p q = refl
trees_by_name names (Nand t u) (Leaf n) different p q = refl
trees_by_name names (Nand t u) (Inv v) different p q = refl
trees_by_name names (Nand t u) (Nand v w) different p q =
    ap (λ (r : Ordering). ordering_then r (tree_cmp (place_cmp names) u w)) (trees_by_name names t v different p.0 q.0)
    ∙ ap (ordering_then (tree_cmp name_cmp (renamed (name_at names) t) (renamed (name_at names) v))) (trees_by_name names u w different p.1 q.1)
