-- An arena that is made anew of the small trees of another one.
use Rattle.std.proofs.Common.{◌≡◌, ℕ, zero, suc, ◌+◌, ◌-◌, ◌^◌, ◌<◌, ◌≤◌, true, Option, Some, List, [], ◌∷◌, ◌++◌, map, length, take, drop, set, leb, get_or, sum_by, refl, sym, ap, ◌∙◌, subst, inl, inr, ◌⊎◌, arith}
use Rattle.std.specs.List.{AllByRecursion, list_all}
use Rattle.std.proofs.lemmas.List.{length-append, get_or_append_left}
use Rattle.std.proofs.lemmas.Bool.{leb-true, le-leb, and_parts}
use Rattle.std.proofs.lemmas.List.Edits.{map_over_more}
use Rattle.std.proofs.lemmas.List.Sums.{sum_by-cons}
use Rattle.std.proofs.Math.Seq.{get_or-append_seam}
use Rattle.circuit_model.specs.declared.circuit.Table.{Table}
use Rattle.subject_tree.specs.Trees.{Tree, Inv, Nand, size_of, renamed}
use Rattle.subject_tree.specs.Order.{name_at}
use Rattle.subject_tree.specs.Arenas.{trees, tree_at, built, vertex_at, IsOver, IsArena, KeepsTrees, Has}
use Rattle.subject_tree.specs.Sizes.{word_size}
use Rattle.subject_tree.specs.Pruning.{number_in, renumbered_vertex, renumbered_root}
use Rattle.subject_tree.specs.Roots.{named_tree, AreRoots}
use Rattle.subject_tree.specs.declared.arena.Vertex.{Vertex}
use Rattle.subject_tree.specs.declared.arena.Vertex.TheVariants.{Leaf, Inv as AtInv, Nand as AtNand}
use Rattle.subject_tree.specs.declared.forest.Root.{Root}
use Rattle.subject_tree.proofs.Rooting.{size_there}

-- the small trees of the first vertices stand in the new arena, and no tree there is large
pub record Pruned (limit : ℕ) (vs ws : List Vertex) (numbers : List ℕ) (k : ℕ) : Type 0 where
  pub count : length numbers ≡ k
  pub each : (n : ℕ) → n < k → size_of (tree_at vs n) ≤ limit → Has ws (number_in numbers n) (tree_at vs n)
  pub small : (n : ℕ) → n < length ws → size_of (tree_at ws n) ≤ limit

pub pruned_none : (limit : ℕ) (vs ws : List Vertex) → ws ≡ [] → Pruned limit vs ws [] 0
pruned_none limit vs ws is = record {
  count = refl;
  each = λ n lt. absurd (omega (arith, lt));
  small = λ n lt. let none : length ws ≡ 0 = ap (λ (xs : List Vertex). length xs) is in absurd (omega (arith, lt, none));
}

-- the vertex of a small tree, over the numbers that stand for its own
replaced : (limit : ℕ) (vs ws : List Vertex) (numbers : List ℕ) (k : ℕ) → Pruned limit vs ws numbers k → (v : Vertex) → IsOver k v → size_of (built (trees vs) v) ≤ limit
    → IsOver (length ws) (renumbered_vertex numbers v) × (built (trees ws) (renumbered_vertex numbers v) ≡ built (trees vs) v)
unfolding size_of
replaced limit vs ws numbers k pruned (Leaf place) over le = (tt, refl)
replaced limit vs ws numbers k pruned (AtInv n) over le =
    let has : Has ws (number_in numbers n) (tree_at vs n) = pruned.each n over (omega (arith, le)) in
    (has.0, ap (λ (t : Tree ℕ). Inv t) has.1)
replaced limit vs ws numbers k pruned (AtNand m n) over le =
    let one : Has ws (number_in numbers m) (tree_at vs m) = pruned.each m over.0 (omega (arith, le)) in
    let other : Has ws (number_in numbers n) (tree_at vs n) = pruned.each n over.1 (omega (arith, le)) in
    ((one.0, other.0), ap (λ (t : Tree ℕ). Nand t (tree_at ws (number_in numbers n))) one.1 ∙ ap (λ (t : Tree ℕ). Nand (tree_at vs m) t) other.1)

pub replaced_at : (limit : ℕ) (vs ws : List Vertex) (numbers : List ℕ) (k : ℕ) → IsArena vs → k < length vs → Pruned limit vs ws numbers k → size_of (tree_at vs k) ≤ limit
    → IsOver (length ws) (renumbered_vertex numbers (vertex_at vs k)) × (built (trees ws) (renumbered_vertex numbers (vertex_at vs k)) ≡ tree_at vs k)
replaced_at limit vs ws numbers k arena lt pruned le =
    let (over, same) = replaced limit vs ws numbers k pruned (vertex_at vs k) (arena.over k lt) (subst (λ (t : Tree ℕ). size_of t ≤ limit) (arena.reads k lt) le) in
    (over, same ∙ sym (arena.reads k lt))

-- one vertex more
pub pruned_more : (limit : ℕ) (vs old new : List Vertex) (numbers after : List ℕ) (k made : ℕ) → IsArena vs → k < length vs → Pruned limit vs old numbers k → after ≡ numbers ++ made ∷ [] → KeepsTrees old new
    → (size_of (tree_at vs k) ≤ limit → Has new made (built (trees old) (renumbered_vertex numbers (vertex_at vs k))))
    → ((n : ℕ) → n < length new → (n < length old) ⊎ ((size_of (tree_at vs k) ≤ limit) × (tree_at new n ≡ built (trees old) (renumbered_vertex numbers (vertex_at vs k)))))
    → Pruned limit vs new after (k + 1)
pruned_more limit vs old new numbers after k made arena lt pruned is kept has added = record {
  count = (let longer : length after ≡ length (numbers ++ made ∷ []) = ap (λ (xs : List ℕ). length xs) is in let one : length (made ∷ []) ≡ 1 = refl in omega (arith, longer, one, length-append numbers (made ∷ []), pruned.count));
  each = each;
  small = small;
}
  where
    old_one : (n : ℕ) → n < k → size_of (tree_at vs n) ≤ limit → Has new (number_in after n) (tree_at vs n)
    old_one n below le =
        let here : Has old (number_in numbers n) (tree_at vs n) = pruned.each n below le in
        let same : number_in after n ≡ number_in numbers n = ap (λ (xs : List ℕ). get_or xs n 0) is ∙ get_or_append_left numbers (made ∷ []) 0 n (omega (arith, below, pruned.count)) in
        let on : Has new (number_in numbers n) (tree_at vs n) = ((kept (number_in numbers n) here.0).0, (kept (number_in numbers n) here.0).1 ∙ here.1) in
        subst (λ (m : ℕ). Has new m (tree_at vs n)) (sym same) on

    last_one : size_of (tree_at vs k) ≤ limit → Has new (number_in after k) (tree_at vs k)
    last_one le =
        let at : number_in after k ≡ made = ap (λ (xs : List ℕ). get_or xs k 0) is ∙ (ap (λ (i : ℕ). get_or (numbers ++ made ∷ []) i 0) (sym pruned.count) ∙ get_or-append_seam numbers made [] 0) in
        let on : Has new made (tree_at vs k) = ((has le).0, (has le).1 ∙ (replaced_at limit vs old numbers k arena lt pruned le).1) in
        subst (λ (m : ℕ). Has new m (tree_at vs k)) (sym at) on

    each : (n : ℕ) → n < k + 1 → size_of (tree_at vs n) ≤ limit → Has new (number_in after n) (tree_at vs n)
    each n below le = elim (either n k below) as (λ _. Has new (number_in after n) (tree_at vs n)) [
      | inl lower ↦ old_one n lower le
      | inr here ↦ subst (λ (m : ℕ). Has new (number_in after m) (tree_at vs m)) (sym here) (last_one (subst (λ (m : ℕ). size_of (tree_at vs m) ≤ limit) here le))
    ]
      where
        either : (i j : ℕ) → i < j + 1 → (i < j) ⊎ (i ≡ j)
        either zero zero lt = inr refl
        either zero (suc j) lt = inl (omega arith)
        either (suc i) zero lt = absurd (omega (arith, lt))
        either (suc i) (suc j) lt = elim (either i j (omega (arith, lt))) [ inl h ↦ inl (omega (arith, h)) | inr h ↦ inr (omega (arith, h)) ]

    small : (n : ℕ) → n < length new → size_of (tree_at new n) ≤ limit
    small n below = elim (added n below) as (λ _. size_of (tree_at new n) ≤ limit) [
      | inl before ↦ subst (λ (t : Tree ℕ). size_of t ≤ limit) (sym (kept n before).1) (pruned.small n before)
      | inr (le, same) ↦ subst (λ (t : Tree ℕ). size_of t ≤ limit) (sym (same ∙ (replaced_at limit vs old numbers k arena lt pruned le).1)) le
    ]

pub size_small : (vs : List Vertex) (sizes : List ℕ) (n limit size : ℕ) → sizes ≡ map word_size (trees vs) → size ≡ get_or sizes n 1 → limit < 2 ^ 64 - 1 → size ≤ limit → size_of (tree_at vs n) ≤ limit
size_small vs sizes n limit size is at low le = omega (arith, at, ap (λ (xs : List ℕ). get_or xs n 1) is, size_there (trees vs) n, low, le)

pub small_size : (vs : List Vertex) (sizes : List ℕ) (n limit size : ℕ) → sizes ≡ map word_size (trees vs) → size ≡ get_or sizes n 1 → size_of (tree_at vs n) ≤ limit → size ≤ limit
small_size vs sizes n limit size is at le = omega (arith, at, ap (λ (xs : List ℕ). get_or xs n 1) is, size_there (trees vs) n, le)

-- where all sizes are within the limit, all trees are
all_within : (sizes : List ℕ) (limit n : ℕ) → 1 ≤ limit → list_all (λ (size : ℕ). leb size limit) sizes ≡ true → get_or sizes n 1 ≤ limit
all_within [] limit n one all = one
all_within (size ∷ sizes) limit zero one all = leb-true size limit (and_parts _ _ all).0
all_within (size ∷ sizes) limit (suc n) one all = all_within sizes limit n one (and_parts _ _ all).1

pub all_small : (vs : List Vertex) (sizes : List ℕ) (limit n : ℕ) → sizes ≡ map word_size (trees vs) → 1 ≤ limit → limit < 2 ^ 64 - 1 → list_all (λ (size : ℕ). leb size limit) sizes ≡ true → size_of (tree_at vs n) ≤ limit
all_small vs sizes limit n is one low all = size_small vs sizes n limit (get_or sizes n 1) is refl low (all_within sizes limit n one all)

-- the same by the test that is made
pub kept_over : (limit : ℕ) (vs ws : List Vertex) (numbers slice sizes : List ℕ) (k size : ℕ) (v : Vertex) → IsArena vs → k < length vs → Pruned limit vs ws numbers k → slice ≡ numbers → v ≡ vertex_at vs k
    → sizes ≡ map word_size (trees vs) → size ≡ get_or sizes k 1 → limit < 2 ^ 64 - 1 → leb size limit ≡ true → IsOver (length ws) (renumbered_vertex slice v)
kept_over limit vs ws numbers slice sizes k size v arena lt pruned same at is there low small =
    subst (λ (u : Vertex). IsOver (length ws) u) (sym (ap (λ (ns : List ℕ). renumbered_vertex ns v) same ∙ ap (renumbered_vertex numbers) at))
    (replaced_at limit vs ws numbers k arena lt pruned (size_small vs sizes k limit size is there low (leb-true size limit small))).0

pub kept_more : (limit : ℕ) (vs old new : List Vertex) (numbers slice sizes after : List ℕ) (k size made : ℕ) (v : Vertex) → IsArena vs → k < length vs → Pruned limit vs old numbers k → slice ≡ numbers → v ≡ vertex_at vs k
    → sizes ≡ map word_size (trees vs) → size ≡ get_or sizes k 1 → limit < 2 ^ 64 - 1 → after ≡ numbers ++ made ∷ [] → KeepsTrees old new
    → (leb size limit ≡ true → Has new made (built (trees old) (renumbered_vertex slice v)))
    → ((n : ℕ) → n < length new → (n < length old) ⊎ ((leb size limit ≡ true) × (tree_at new n ≡ built (trees old) (renumbered_vertex slice v))))
    → Pruned limit vs new after (k + 1)
kept_more limit vs old new numbers slice sizes after k size made v arena lt pruned same at is there low pushed kept has added =
    pruned_more limit vs old new numbers after k made arena lt pruned pushed kept
    (λ le. subst (λ (u : Vertex). Has new made (built (trees old) u)) vertex (has (le-leb size limit (small_size vs sizes k limit size is there le))))
    (λ n below. elim (added n below) as (λ _. (n < length old) ⊎ ((size_of (tree_at vs k) ≤ limit) × (tree_at new n ≡ built (trees old) (renumbered_vertex numbers (vertex_at vs k))))) [
      | inl before ↦ inl before
      | inr (small, tree) ↦ inr (size_small vs sizes k limit size is there low (leb-true size limit small), tree ∙ ap (built (trees old)) vertex)
    ])
  where
    vertex : renumbered_vertex slice v ≡ renumbered_vertex numbers (vertex_at vs k)
    vertex = ap (λ (ns : List ℕ). renumbered_vertex ns v) same ∙ ap (renumbered_vertex numbers) at

-- a root more is renumbered in its place
pub renumber_more : (numbers : List ℕ) (xs ys : List Root) (i : ℕ) (x : Root) (m : ℕ) → i < length xs → ys ≡ map (renumbered_root numbers) (take i xs) ++ drop i xs → x ≡ get_or ys i x → m ≡ number_in numbers x.number
    → set ys i (record { name = (get_or ys i x).name; number = m }) ≡ map (renumbered_root numbers) (take (i + 1) xs) ++ drop (i + 1) xs
renumber_more numbers xs ys i x m lt so at is =
    ap (λ (y : Root). set ys i (record { name = y.name; number = m })) (sym at)
    ∙ (ap (λ (k : ℕ). set ys i (record { name = x.name; number = k })) is ∙ map_over_more (renumbered_root numbers) xs ys i x lt so at)

-- roots of small trees keep their trees
pub each_small : (f : Root → ℕ) (roots : List Root) (limit : ℕ) → sum_by f roots ≤ limit → AllByRecursion (λ (root : Root). f root ≤ limit) roots
each_small f [] limit le = tt
each_small f (root ∷ roots) limit le = (omega (arith, le, sum_by-cons f root roots), each_small f roots limit (omega (arith, le, sum_by-cons f root roots)))

module _ (limit : ℕ) (vs ws : List Vertex) (numbers : List ℕ) (each : (n : ℕ) → n < length vs → size_of (tree_at vs n) ≤ limit → Has ws (number_in numbers n) (tree_at vs n)) where
  same_names : (roots : List Root) → map (λ (root : Root). root.name) (map (renumbered_root numbers) roots) ≡ map (λ (root : Root). root.name) roots
  same_names [] = refl
  same_names (root ∷ roots) = ap (λ (names : List (List ℕ)). root.name ∷ names) (same_names roots)

  new_taken : (roots : List Root) → AllByRecursion (λ (root : Root). root.number < length vs) roots → AllByRecursion (λ (root : Root). size_of (tree_at vs root.number) ≤ limit) roots
      → AllByRecursion (λ (root : Root). root.number < length ws) (map (renumbered_root numbers) roots)
  new_taken [] taken small = tt
  new_taken (root ∷ roots) taken small = ((each root.number taken.0 small.0).0, new_taken roots taken.1 small.1)

  new_trees : (more : List (List ℕ)) (roots : List Root) → AllByRecursion (λ (root : Root). root.number < length vs) roots → AllByRecursion (λ (root : Root). size_of (tree_at vs root.number) ≤ limit) roots
      → map (λ (root : Root). Some (named_tree ws more root)) (map (renumbered_root numbers) roots) ≡ map (λ (root : Root). Some (named_tree vs more root)) roots
  new_trees more [] taken small = refl
  new_trees more (root ∷ roots) taken small =
      ap (λ (t : Tree ℕ). Some (renamed (name_at more) t) ∷ map (λ (r : Root). Some (named_tree ws more r)) (map (renumbered_root numbers) roots)) (each root.number taken.0 small.0).1
      ∙ ap (λ (ts : List (Option (Tree (List ℕ)))). Some (named_tree vs more root) ∷ ts) (new_trees more roots taken.1 small.1)

  pub roots_kept : (names : List (List ℕ)) (tree : List ℕ → Tree (List ℕ)) (tables : List Table) (roots after : List Root) → after ≡ map (renumbered_root numbers) roots
      → AllByRecursion (λ (root : Root). size_of (tree_at vs root.number) ≤ limit) roots → AreRoots vs names tree tables roots → AreRoots ws names tree tables after
  roots_kept names tree tables roots after is small are =
      subst (λ (rs : List Root). AreRoots ws names tree tables rs) (sym is) (record {
        named = same_names roots ∙ are.named;
        taken = new_taken roots are.taken small;
        trees = λ more keeps. new_trees more roots are.taken small ∙ are.trees more keeps;
      })
