-- Over two lists of different names, the choices that are taken at one tree of names are the same.
use Rattle.std.proofs.Common.{◌≡◌, ℕ, true, List, [], ◌∷◌, length, map, Less, Equal, Greater, refl}
use Rattle.std.proofs.Common.{ap, ◌∙◌, subst}
use Rattle.std.specs.List.{AllByRecursion, AllZip}
use Rattle.std.specs.Ordering.{ordering_then, ordering_reverse, nat_cmp}
use Rattle.std.specs.Cmp.{nat_cmp_total}
use Rattle.std.specs.Cmp.Lexicographic.{slice_cmp, lists_total}
use Rattle.std.specs.declared.cmp.Ordering.{Ordering}
use Rattle.std.proofs.lemmas.Cmp.{nat_list_cmp_total}
use Rattle.std.proofs.lemmas.Map.Lookups.{CmpEqualImpliesEq, exact_unsigned, exact_bytes}
use Rattle.circuit_model.specs.Names.{all_different}
use Rattle.subject_tree.specs.Trees.{Tree, renamed}
use Rattle.subject_tree.specs.Order.{tree_cmp, place_cmp, name_cmp, name_at, LeavesBelow}
use Rattle.subject_tree.proofs.Comparing.{tree_total, tree_exact, trees_by_name}
use Rattle.tree_cover.specs.Covers.{Tile, Stands, IsGiven}
use Rattle.tree_cover.specs.Written.{UsesPins}
use Rattle.map_net.proofs.Renaming.{IsWithin, IsBack, stands_renamed, all_bound, moved, AreOne}
use Rattle.map_net.proofs.Renaming.{one_turned, moves_to, IsMoved, one_moved, moves_down}

-- lists that are level are one, where only one thing is level with itself
lists_exact : {A : Type 0} (cmp : A → A → Ordering) → CmpEqualImpliesEq cmp
    → (xs ys : List A) → slice_cmp cmp xs ys ≡ Equal → xs ≡ ys
lists_exact cmp exact [] [] e = refl
lists_exact cmp exact [] (y ∷ ys) e = absurd (let x : ⊥ = cc in x)
lists_exact cmp exact (x ∷ xs) [] e = absurd (let z : ⊥ = cc in z)
lists_exact {A} cmp exact (x ∷ xs) (y ∷ ys) e = by (cmp x y) refl e
    (λ h. lists_exact cmp exact xs ys h)
  where
    by : (r : Ordering) → cmp x y ≡ r → ordering_then r (slice_cmp cmp xs ys) ≡ Equal
        → (slice_cmp cmp xs ys ≡ Equal → xs ≡ ys) → x ∷ xs ≡ y ∷ ys
    by Less is h rest = absurd (let z : ⊥ = cc in z)
    by Equal is h rest = ap (λ (z : A). z ∷ xs) (exact x y is)
        ∙ ap (λ (zs : List A). y ∷ zs) (rest h)
    by Greater is h rest = absurd (let z : ⊥ = cc in z)

-- of two comparisons in order, neither of which comes after the other way round, the first is level
then_level : (r back s t : Ordering) → back ≡ ordering_reverse r
    → (ordering_then r s ≡ Greater → ⊥) → (ordering_then back t ≡ Greater → ⊥)
    → (r ≡ Equal) × (s ≡ Greater → ⊥) × (t ≡ Greater → ⊥)
then_level Less back s t is one other =
    absurd (other (ap (λ (o : Ordering). ordering_then o t) is))
then_level Equal back s t is one other =
    (refl, one, λ e. other (ap (λ (o : Ordering). ordering_then o t) is ∙ e))
then_level Greater back s t is one other = absurd (one refl)

neither_after : (r back : Ordering) → back ≡ ordering_reverse r → (r ≡ Greater → ⊥)
    → (back ≡ Greater → ⊥) → r ≡ Equal
neither_after Less back is one other = absurd (other is)
neither_after Equal back is one other = refl
neither_after Greater back is one other = absurd (one refl)

-- how lists of trees of names compare
abbrev named_cmp : List (Tree (List ℕ)) → List (Tree (List ℕ)) → Ordering
named_cmp one other = slice_cmp (tree_cmp name_cmp) one other

-- how choices compare by the names of leaves
abbrev choices_cmp : ℕ → ℕ → List (Tree (List ℕ)) → ℕ → ℕ → List (Tree (List ℕ)) → Ordering
choices_cmp cost place one other_cost other_place other = ordering_then (nat_cmp cost other_cost)
    (ordering_then (nat_cmp place other_place) (named_cmp one other))

named_total : (one other : List (Tree (List ℕ)))
    → named_cmp other one ≡ ordering_reverse (named_cmp one other)
named_total one other =
    (lists_total (tree_total name_cmp nat_list_cmp_total exact_bytes)).antisymm other one

-- choices of which neither comes after the other are one
choices_level : (cost place : ℕ) (one : List (Tree (List ℕ))) (other_cost other_place : ℕ)
    (other : List (Tree (List ℕ)))
    → (choices_cmp cost place one other_cost other_place other ≡ Greater → ⊥)
    → (choices_cmp other_cost other_place other cost place one ≡ Greater → ⊥)
    → (cost ≡ other_cost) × (place ≡ other_place) × (one ≡ other)
choices_level cost place one other_cost other_place other first second =
    let (c, p, q) = then_level _ _ _ _ (nat_cmp_total.antisymm other_cost cost) first second in
    let (d, r, s) = then_level _ _ _ _ (nat_cmp_total.antisymm other_place place) p q in (
      exact_unsigned cost other_cost c,
      exact_unsigned place other_place d,
      lists_exact (tree_cmp name_cmp) (tree_exact name_cmp nat_list_cmp_total exact_bytes) one other
          (neither_after (named_cmp one other) (named_cmp other one) (named_total one other) r s),
    )

-- trees by the names of their leaves
abbrev named_trees : List (List ℕ) → List (Tree ℕ) → List (Tree (List ℕ))
named_trees names ts = map (renamed (name_at names)) ts

-- lists of trees compare by the names of their leaves
lists_by_name : (names : List (List ℕ)) → all_different names ≡ true → (ts us : List (Tree ℕ))
    → AllByRecursion (LeavesBelow (length names)) ts
    → AllByRecursion (LeavesBelow (length names)) us
    → slice_cmp (tree_cmp (place_cmp names)) ts us
    ≡ named_cmp (named_trees names ts) (named_trees names us)
lists_by_name names different [] [] below beside = refl
lists_by_name names different [] (u ∷ us) below beside = refl
lists_by_name names different (t ∷ ts) [] below beside = refl
lists_by_name names different (t ∷ ts) (u ∷ us) below beside =
    ap (λ (r : Ordering). ordering_then r (slice_cmp (tree_cmp (place_cmp names)) ts us))
    (trees_by_name names t u different below.0 beside.0)
    ∙ ap (ordering_then (tree_cmp name_cmp (renamed (name_at names) t) (renamed (name_at names) u)))
    (lists_by_name names different ts us below.1 beside.1)

-- two lists of names and two libraries with the same gates
pub record AreAlike (names other : List (List ℕ)) (library into : List Tile) : Type 0 where
  pub different : all_different names ≡ true
  pub beside : all_different other ≡ true
  pub uses : UsesPins library
  pub used : UsesPins into
  pub forth : IsWithin library into
  pub back : IsWithin into library

pub alike_turned : (names other : List (List ℕ)) (library into : List Tile)
    → AreAlike names other library into → AreAlike other names into library
alike_turned names other library into alike = record {
  different = alike.beside;
  beside = alike.different;
  uses = alike.used;
  used = alike.uses;
  forth = alike.back;
  back = alike.forth;
}

all_below : (names other : List (List ℕ)) (ts : List (Tree ℕ))
    → AllByRecursion (IsMoved names other) ts → AllByRecursion (LeavesBelow (length names)) ts
all_below names other [] all = tt
all_below names other (t ∷ ts) all = (all.0.below, all_below names other ts all.1)

all_beside : (names other : List (List ℕ)) (ts : List (Tree ℕ))
    → AllByRecursion (IsMoved names other) ts
    → AllByRecursion (LeavesBelow (length other)) (map (renamed (moved names other)) ts)
all_beside names other [] all = tt
all_beside names other (t ∷ ts) all = (all.0.beside, all_beside names other ts all.1)

all_back : (names other : List (List ℕ)) (ts : List (Tree ℕ))
    → AllByRecursion (IsMoved names other) ts
    → AllByRecursion (IsBack (moved names other) (moved other names)) ts
all_back names other [] all = tt
all_back names other (t ∷ ts) all = (all.0.back, all_back names other ts all.1)

all_named : (names other : List (List ℕ)) (ts : List (Tree ℕ))
    → AllByRecursion (IsMoved names other) ts
    → named_trees other (map (renamed (moved names other)) ts) ≡ named_trees names ts
all_named names other [] all = refl
all_named names other (t ∷ ts) all =
    ap (λ (u : Tree (List ℕ)). u ∷ named_trees other (map (renamed (moved names other)) ts))
    all.0.named
    ∙ ap (λ (us : List (Tree (List ℕ))). renamed (name_at names) t ∷ us)
    (all_named names other ts all.1)

module _ (names other : List (List ℕ)) (library into : List Tile)
    (alike : AreAlike names other library into) where
  -- the trees at the pins of a gate that stands at a tree can be moved with it
  bound_moved : (t u : Tree ℕ) (cost place : ℕ) (bound : List (Tree ℕ)) → AreOne names other t u
      → Stands library t cost place bound → AllByRecursion (IsMoved names other) bound
  bound_moved t u cost place bound one stands = all_bound (IsMoved names other)
      (moves_down names other) library alike.uses t cost place bound stands
      (one_moved names other t u alike.different alike.beside one)

  -- what stands at a tree stands at the other one
  stands_moved : (t u : Tree ℕ) (cost place : ℕ) (bound : List (Tree ℕ)) → AreOne names other t u
      → Stands library t cost place bound
      → Stands into u cost place (map (renamed (moved names other)) bound)
  stands_moved t u cost place bound one stands = subst
      (λ (v : Tree ℕ). Stands into v cost place (map (renamed (moved names other)) bound))
      (moves_to names other t u alike.beside one.beside one.named)
      (stands_renamed (moved names other) (moved other names) library into alike.forth alike.back
      t cost place bound
      (all_back names other bound (bound_moved t u cost place bound one stands)) stands)

-- the choice that is taken at a tree does not come after the one that is taken at the other
not_after : (names other : List (List ℕ)) (library into : List Tile)
    → AreAlike names other library into → (t u : Tree ℕ) → AreOne names other t u
    → (cost place : ℕ) (bound : List (Tree ℕ)) (other_cost other_place : ℕ)
    (beside : List (Tree ℕ)) → IsGiven (tree_cmp (place_cmp names)) library t cost place bound
    → Stands into u other_cost other_place beside
    → choices_cmp cost place (named_trees names bound) other_cost other_place
    (named_trees other beside) ≡ Greater → ⊥
not_after names other library into alike t u one cost place bound other_cost other_place beside
    given stands after =
    let back : AreOne other names u t = one_turned names other t u one in
    let turned : AreAlike other names into library = alike_turned names other library into alike in
    let moved_beside : AllByRecursion (IsMoved other names) beside =
    bound_moved other names into library turned u t other_cost other_place beside back stands in
    let moved_bound : AllByRecursion (IsMoved names other) bound =
    bound_moved names other library into alike t u cost place bound one given.stands in
    let same : slice_cmp (tree_cmp (place_cmp names)) bound
    (map (renamed (moved other names)) beside)
    ≡ named_cmp (named_trees names bound) (named_trees other beside) =
    lists_by_name names alike.different bound (map (renamed (moved other names)) beside)
    (all_below names other bound moved_bound) (all_beside other names beside moved_beside)
    ∙ ap (named_cmp (named_trees names bound)) (all_named other names beside moved_beside) in
    given.first other_cost other_place (map (renamed (moved other names)) beside)
    (stands_moved other names into library turned u t other_cost other_place beside back stands)
    (ap (λ (r : Ordering). ordering_then (nat_cmp cost other_cost)
    (ordering_then (nat_cmp place other_place) r)) same ∙ after)

-- trees, each of which is one tree of names with another
zip_named : (names other : List (List ℕ)) (ts us : List (Tree ℕ))
    → AllByRecursion (LeavesBelow (length names)) ts
    → AllByRecursion (LeavesBelow (length other)) us
    → named_trees names ts ≡ named_trees other us → AllZip (AreOne names other) ts us
zip_named names other [] [] below beside e = tt
zip_named names other [] (u ∷ us) below beside e = absurd (let x : ⊥ = cc in x)
zip_named names other (t ∷ ts) [] below beside e = absurd (let x : ⊥ = cc in x)
zip_named names other (t ∷ ts) (u ∷ us) below beside e =
    let head : renamed (name_at names) t ≡ renamed (name_at other) u = cc in
    let tail : named_trees names ts ≡ named_trees other us = cc in (
      record { below = below.0; beside = beside.0; named = head },
      zip_named names other ts us below.1 beside.1 tail,
    )

-- what is taken at two trees that are one tree of names
pub record AreGiven (names other : List (List ℕ)) (place into : ℕ) (bound beside : List (Tree ℕ))
    : Type 0 where
  pub same : place ≡ into
  pub trees : AllZip (AreOne names other) bound beside

pub given_one : (names other : List (List ℕ)) (library into : List Tile)
    → AreAlike names other library into → (t u : Tree ℕ) → AreOne names other t u
    → (cost place : ℕ) (bound : List (Tree ℕ)) (other_cost other_place : ℕ)
    (beside : List (Tree ℕ)) → IsGiven (tree_cmp (place_cmp names)) library t cost place bound
    → IsGiven (tree_cmp (place_cmp other)) into u other_cost other_place beside
    → AreGiven names other place other_place bound beside
given_one names other library into alike t u one cost place bound other_cost other_place beside
    given taken =
    let back : AreOne other names u t = one_turned names other t u one in
    let turned : AreAlike other names into library = alike_turned names other library into alike in
    let (c, p, trees) = choices_level cost place (named_trees names bound) other_cost other_place
    (named_trees other beside)
    (not_after names other library into alike t u one cost place bound other_cost other_place beside
    given taken.stands)
    (not_after other names into library turned u t back other_cost other_place beside cost place
    bound taken given.stands) in
    record {
      same = p;
      trees = zip_named names other bound beside
          (all_below names other bound
          (bound_moved names other library into alike t u cost place bound one given.stands))
          (all_below other names beside
          (bound_moved other names into library turned u t other_cost other_place beside back
          taken.stands)) trees;
    }
