-- The tree of a root has its table's value, by the names of its leaves, and each of its leaves has a name.
use Rattle.std.proofs.Common.{◌≡◌, ℕ, zero, suc, ◌-◌, ◌<◌, ◌≤◌, Bool, true, false, cond, not, ◌&&◌, Option, Some, List, [], ◌∷◌, ◌++◌, map, filter, length, replicate, get_or, slice_get, refl, sym, ap, ◌∙◌, inl, inr, ◌⊎◌, arith}
use Rattle.std.specs.List.{AllByRecursion}
use Rattle.std.proofs.lemmas.Option.{same_Some, none-some}
use Rattle.std.proofs.lemmas.List.{length-append, length-replicate}
use Rattle.std.proofs.Math.Seq.{get_or-append_seam}
use Rattle.circuit_model.specs.Names.{all_different}
use Rattle.circuit_model.specs.Values.{table_value}
use Rattle.circuit_model.specs.Soundness.{outputs_of, IsShaped, IsAcyclic}
use Rattle.circuit_model.specs.declared.circuit.Table.{Table}
use Rattle.circuit_model.specs.declared.circuit.Circuit.{Circuit}
use Rattle.circuit_laws.proofs.Ranks.{acyclic_rank}
use Rattle.circuit_laws.proofs.Places.{placed_driver}
use Rattle.subject_tree.specs.Trees.{Tree, Leaf, Inv, Nand, value_at, renamed}
use Rattle.subject_tree.specs.Order.{name_at, KeepsNames, LeavesBelow}
use Rattle.subject_tree.specs.Arenas.{tree_at}
use Rattle.subject_tree.specs.Forest.{fate_of, AreTrees, PutObey}
use Rattle.subject_tree.specs.Roots.{is_root_fate, roots_of, tree_over, named_tree, AreRoots}
use Rattle.subject_tree.specs.declared.arena.Vertex.{Vertex}
use Rattle.subject_tree.specs.declared.forest.Root.{Root}
use Rattle.subject_tree.proofs.Growing.{trees_worth}
use Rattle.subject_tree.proofs.Listing.{mapped_get}
use Rattle.subject_tree.proofs.Rooting.{root-full}

nand_same : (a b c d : Bool) → a ≡ c → b ≡ d → not (a && b) ≡ not (c && d)
nand_same a b c d p q = ap (λ (x : Bool). not (x && b)) p ∙ ap (λ (x : Bool). not (c && x)) q

renamed-value : {A B : Type 0} (value : B → Bool) (f : A → B) (t : Tree A) → value_at value (renamed f t) ≡ value_at (λ leaf. value (f leaf)) t
unfolding value_at renamed
renamed-value value f (Leaf leaf) = refl
renamed-value value f (Inv t) = ap not (renamed-value value f t)
renamed-value value f (Nand t u) = nand_same _ _ _ _ (renamed-value value f t) (renamed-value value f u)

-- what passes a test stood in the list
filter_place : (test : Table → Bool) (tables : List Table) (i : ℕ) (table : Table) → slice_get (filter test tables) i ≡ Some table → (j : ℕ) × (slice_get tables j ≡ Some table) × (test table ≡ true)
filter_place test [] i table at = absurd (none-some table at)
filter_place test (first ∷ tables) i table at = cases (test first) refl i at (filter_place test tables)
  where
    cases : (b : Bool) → test first ≡ b → (k : ℕ) → slice_get (cond b (first ∷ filter test tables) (filter test tables)) k ≡ Some table
        → ((k : ℕ) (t : Table) → slice_get (filter test tables) k ≡ Some t → (j : ℕ) × (slice_get tables j ≡ Some t) × (test t ≡ true))
        → (j : ℕ) × (slice_get (first ∷ tables) j ≡ Some table) × (test table ≡ true)
    cases true e zero here rest = (0, here, ap test (sym (same_Some first table here)) ∙ e)
    cases true e (suc k) here rest = let (j, there, passes) = rest k table here in (suc j, there, passes)
    cases false e k here rest = let (j, there, passes) = rest k table here in (suc j, there, passes)

pub roots-worth : (circuit : Circuit) (vs : List Vertex) (names : List (List ℕ)) (tree : List ℕ → Tree (List ℕ)) (roots : List Root) (value : List ℕ → Bool)
    → IsAcyclic circuit.tables → all_different (outputs_of circuit.tables) ≡ true → AllByRecursion IsShaped circuit.tables → AreTrees circuit tree → AreRoots vs names tree (roots_of circuit) roots → PutObey circuit value
    → (place : ℕ) (root : Root) (table : Table) → slice_get roots place ≡ Some root → slice_get (roots_of circuit) place ≡ Some table
    → value_at (λ leaf. value (name_at names leaf)) (tree_at vs root.number) ≡ table_value table (map value table.inputs)
roots-worth circuit vs names tree roots value acyclic different shaped trees are obey place root table at_root at_table =
    let (j, at, is_root) = filter_place (λ (t : Table). is_root_fate (fate_of circuit t)) circuit.tables place table at_table in
    let mine : slice_get (map (λ (r : Root). Some (named_tree vs names r)) roots) place ≡ Some (Some (named_tree vs names root)) = mapped_get (λ (r : Root). Some (named_tree vs names r)) roots place root at_root in
    let others : slice_get (map (tree_over tree) (roots_of circuit)) place ≡ Some (tree_over tree table) = mapped_get (tree_over tree) (roots_of circuit) place table at_table in
    let made : tree_over tree table ≡ Some (named_tree vs names root) =
    same_Some (tree_over tree table) (Some (named_tree vs names root))
    (sym others ∙ (ap (λ (ts : List (Option (Tree (List ℕ)))). slice_get ts place) (sym (are.trees names (λ k name e. e))) ∙ mine)) in
    sym (renamed-value value (name_at names) (tree_at vs root.number))
    ∙ trees_worth circuit tree value (acyclic_rank circuit.tables acyclic) shaped trees obey table.output table (placed_driver circuit.tables j table different at) (root-full circuit table is_root)
    (named_tree vs names root) made

-- trees from their parts
below_inv : Tree (List ℕ) → Tree (List ℕ) → Tree (List ℕ)
below_inv t (Leaf name) = t
below_inv t (Inv u) = u
below_inv t (Nand u v) = t

left_of : Tree (List ℕ) → Tree (List ℕ) → Tree (List ℕ)
left_of t (Leaf name) = t
left_of t (Inv u) = t
left_of t (Nand u v) = u

right_of : Tree (List ℕ) → Tree (List ℕ) → Tree (List ℕ)
right_of t (Leaf name) = t
right_of t (Inv u) = t
right_of t (Nand u v) = v

leaf_of : Tree (List ℕ) → List ℕ
leaf_of (Leaf name) = name
leaf_of (Inv u) = []
leaf_of (Nand u v) = []

-- names behind others, up to one at a place past them
past : List (List ℕ) → ℕ → List (List ℕ)
past names place = (names ++ replicate (place - length names) []) ++ (1 ∷ []) ∷ []

past-keeps : (names : List (List ℕ)) (place : ℕ) → KeepsNames names (past names place)
unfolding past
past-keeps names place k name at = front (names ++ replicate (place - length names) []) ((1 ∷ []) ∷ []) k name (front names (replicate (place - length names) []) k name at)
  where
    front : (xs ys : List (List ℕ)) (i : ℕ) (x : List ℕ) → slice_get xs i ≡ Some x → slice_get (xs ++ ys) i ≡ Some x
    front [] ys i x e = absurd (none-some x e)
    front (y ∷ xs) ys zero x e = e
    front (y ∷ xs) ys (suc i) x e = front xs ys i x e

past-there : (names : List (List ℕ)) (place : ℕ) → length names ≤ place → ◌≡◌ {A = List ℕ} (name_at (past names place) place) (1 ∷ [])
unfolding past
past-there names place le =
    let long : length (names ++ replicate (place - length names) []) ≡ place = omega (arith, le, length-append {A = List ℕ} names (replicate (place - length names) []), length-replicate {A = List ℕ} (place - length names) []) in
    ap (λ (k : ℕ). get_or (past names place) k []) (sym long) ∙ get_or-append_seam (names ++ replicate (place - length names) []) (1 ∷ []) [] []

nothing-there : (names : List (List ℕ)) (place : ℕ) → length names ≤ place → name_at names place ≡ []
nothing-there [] place le = refl
nothing-there (name ∷ names) zero le = absurd (omega (arith, le))
nothing-there (name ∷ names) (suc place) le = nothing-there names place (omega (arith, le))

-- a tree whose names stay, whatever names come behind, has no leaf past the names
pub leaves-named : (names : List (List ℕ)) (t : Tree ℕ) → ((more : List (List ℕ)) → KeepsNames names more → renamed (name_at more) t ≡ renamed (name_at names) t) → LeavesBelow (length names) t
unfolding LeavesBelow renamed leaf_of below_inv left_of right_of
leaves-named names (Leaf place) same = elim (either place (length names)) [
  | inl lt ↦ lt
  | inr le ↦ absurd (one-none (sym (past-there names place le) ∙ (ap leaf_of (same (past names place) (past-keeps names place)) ∙ nothing-there names place le)))
]
  where
    either : (i n : ℕ) → (i < n) ⊎ (n ≤ i)
    either i zero = inr (omega arith)
    either zero (suc n) = inl (omega arith)
    either (suc i) (suc n) = elim (either i n) [ inl lt ↦ inl (omega (arith, lt)) | inr le ↦ inr (omega (arith, le)) ]

    one-none : ◌≡◌ {A = List ℕ} (1 ∷ []) [] → ⊥
    one-none e = let count : ◌≡◌ {A = ℕ} 1 0 = ap (λ (xs : List ℕ). length xs) e in absurd (omega (arith, count))
leaves-named names (Inv t) same = leaves-named names t (λ more keeps. ap (below_inv (renamed (name_at more) t)) (same more keeps))
leaves-named names (Nand t u) same =
    (leaves-named names t (λ more keeps. ap (left_of (renamed (name_at more) t)) (same more keeps)), leaves-named names u (λ more keeps. ap (right_of (renamed (name_at more) u)) (same more keeps)))

pub roots-named : (vs : List Vertex) (names : List (List ℕ)) (tree : List ℕ → Tree (List ℕ)) (tables : List Table) (roots : List Root) → AreRoots vs names tree tables roots
    → (place : ℕ) (root : Root) → slice_get roots place ≡ Some root → LeavesBelow (length names) (tree_at vs root.number)
roots-named vs names tree tables roots are place root at =
    leaves-named names (tree_at vs root.number) (λ more keeps.
    let here : slice_get (map (λ (r : Root). Some (named_tree vs more r)) roots) place ≡ Some (Some (named_tree vs more root)) = mapped_get (λ (r : Root). Some (named_tree vs more r)) roots place root at in
    let there : slice_get (map (λ (r : Root). Some (named_tree vs names r)) roots) place ≡ Some (Some (named_tree vs names root)) = mapped_get (λ (r : Root). Some (named_tree vs names r)) roots place root at in
    same_Some (named_tree vs more root) (named_tree vs names root) (same_Some (Some (named_tree vs more root)) (Some (named_tree vs names root))
    (sym here ∙ (ap (λ (ts : List (Option (Tree (List ℕ)))). slice_get ts place) (are.trees more keeps ∙ sym (are.trees names (λ k name e. e))) ∙ there))))
