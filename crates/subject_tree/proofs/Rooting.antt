-- The roots in the order of their tables, and how large their trees are together.
use Rattle.std.proofs.Common.{◌≡◌, ℕ, zero, suc, ◌+◌, ◌<◌, ◌≤◌, Bool, true, false, cond, Option, Some, None, List, [], ◌∷◌, ◌++◌, map, filter, length, take, get_or, slice_get, sum_by, refl, sym, ap, ◌∙◌, subst, arith}
use Rattle.std.specs.List.{AllByRecursion}
use Rattle.std.specs.Option.{option_map_or}
use Rattle.std.proofs.lemmas.Bool.{false≢true}
use Rattle.std.proofs.lemmas.List.{map-append}
use Rattle.std.proofs.lemmas.List.Elements.{filter_more}
use Rattle.std.proofs.lemmas.List.Sums.{sum_by_more, sum_by-cons}
use Rattle.circuit_model.specs.Soundness.{outputs_of, IsShaped}
use Rattle.circuit_model.specs.declared.circuit.Tri.{Tri}
use Rattle.circuit_model.specs.declared.circuit.Table.{Table}
use Rattle.circuit_model.specs.declared.circuit.Circuit.{Circuit}
use Rattle.subject_tree.specs.Trees.{Tree, size_of, renamed}
use Rattle.subject_tree.specs.Arenas.{nowhere, trees, tree_at, KeepsTrees}
use Rattle.subject_tree.specs.Order.{name_at, KeepsNames}
use Rattle.subject_tree.specs.Sizes.{word_count, word_size}
use Rattle.subject_tree.specs.Tables.{is_constant}
use Rattle.subject_tree.specs.Forest.{fate_by, fate_of}
use Rattle.subject_tree.specs.Reading.{AreRead, IsMade, AllTaken}
use Rattle.subject_tree.specs.Roots.{is_root_fate, roots_of, tree_over, size_if, named_tree, AreRoots}
use Rattle.subject_tree.specs.declared.arena.Vertex.{Vertex}
use Rattle.subject_tree.specs.declared.forest.Root.{Root}
use Rattle.subject_tree.specs.declared.judging.Role.{Role}
use Rattle.subject_tree.proofs.Growing.{mapped_length}
use Rattle.subject_tree.proofs.Listing.{mapped_get}
use Rattle.subject_tree.proofs.Reading.{named_on, read-kept}
use Rattle.subject_tree.proofs.Renaming.{size-renamed}
use Rattle.subject_tree.proofs.TableValues.{table_tree-there}
use Rattle.sis_base.specs.declared.limits.TheConstants.{MAX_VERTICES}

pub roots-none : (vs : List Vertex) (names : List (List ℕ)) (tree : List ℕ → Tree (List ℕ)) → AreRoots vs names tree [] []
roots-none vs names tree = record { named = refl; taken = tt; trees = λ more keeps. refl }

kept-numbers : (old new : List Vertex) (roots : List Root) → KeepsTrees old new → AllByRecursion (λ (root : Root). root.number < length old) roots → AllByRecursion (λ (root : Root). root.number < length new) roots
kept-numbers old new [] kept taken = tt
kept-numbers old new (root ∷ roots) kept taken = ((kept root.number taken.0).0, kept-numbers old new roots kept taken.1)

kept-trees : (old new : List Vertex) (more : List (List ℕ)) (roots : List Root) → KeepsTrees old new → AllByRecursion (λ (root : Root). root.number < length old) roots
    → map (λ (root : Root). Some (named_tree new more root)) roots ≡ map (λ (root : Root). Some (named_tree old more root)) roots
kept-trees old new more [] kept taken = refl
kept-trees old new more (root ∷ roots) kept taken =
    ap (λ (t : Tree ℕ). Some (renamed (name_at more) t) ∷ map (λ (r : Root). Some (named_tree new more r)) roots) (kept root.number taken.0).1
    ∙ ap (λ (ts : List (Option (Tree (List ℕ)))). Some (named_tree old more root) ∷ ts) (kept-trees old new more roots kept taken.1)

taken-root : (vs : List Vertex) (roots : List Root) (root : Root) → AllByRecursion (λ (r : Root). r.number < length vs) roots → root.number < length vs → AllByRecursion (λ (r : Root). r.number < length vs) (roots ++ root ∷ [])
taken-root vs [] root taken lt = (lt, tt)
taken-root vs (r ∷ roots) root taken lt = (taken.0, taken-root vs roots root taken.1 lt)

-- a root was put behind the others
pub root-more : (old new : List Vertex) (names more : List (List ℕ)) (tree : List ℕ → Tree (List ℕ)) (tables : List Table) (table : Table) (roots : List Root) (root : Root) → KeepsTrees old new → KeepsNames names more → root.name ≡ table.output
    → root.number < length new → IsMade new more (Some root.number) (tree_over tree table) → AreRoots old names tree tables roots → AreRoots new more tree (tables ++ table ∷ []) (roots ++ root ∷ [])
root-more old new names more tree tables table roots root kept named is lt made are = record {
  named =
      map-append (λ (r : Root). r.name) roots (root ∷ [])
      ∙ (ap (λ (ns : List (List ℕ)). ns ++ root.name ∷ []) are.named
      ∙ (ap (λ (n : List ℕ). outputs_of tables ++ n ∷ []) is ∙ sym (map-append (λ (t : Table). t.output) tables (table ∷ []))));
  taken = taken-root new roots root (kept-numbers old new roots kept are.taken) lt;
  trees = λ others keeps.
      map-append (λ (r : Root). Some (named_tree new others r)) roots (root ∷ [])
      ∙ (ap (λ (ts : List (Option (Tree (List ℕ)))). ts ++ Some (named_tree new others root) ∷ []) (kept-trees old new others roots kept are.taken ∙ are.trees others (named_on names more others named keeps))
      ∙ (ap (λ (o : Option (Tree (List ℕ))). map (tree_over tree) tables ++ o ∷ []) (sym (made others keeps)) ∙ sym (map-append (tree_over tree) tables (table ∷ []))));
}

-- a table that is not constant has a tree
pub never-none : (tree : List ℕ → Tree (List ℕ)) (table : Table) → IsShaped table → is_constant table ≡ false → tree_over tree table ≡ None → ⊥
never-none tree table shaped full none =
    table_tree-there (λ name. true) (map tree table.inputs) table (subst (λ (n : ℕ). AllByRecursion (λ (row : List Tri). length row ≡ n) table.rows) (sym (mapped_length tree table.inputs)) shaped.0) full none

root_full : (constant outer : Bool) (uses : ℕ) → is_root_fate (fate_by constant outer uses) ≡ true → constant ≡ false
root_full true outer uses e = absurd (false≢true e)
root_full false outer uses e = refl

pub root-full : (circuit : Circuit) (table : Table) → is_root_fate (fate_of circuit table) ≡ true → is_constant table ≡ false
unfolding fate_of
root-full circuit table e = root_full _ _ _ e

item_at : {X : Type 0} (xs : List X) (k : ℕ) (x : X) → k < length xs → x ≡ get_or xs k x → slice_get xs k ≡ Some x
item_at [] k x lt e = absurd (omega (arith, lt))
item_at (y ∷ xs) zero x lt e = ap (λ z. Some z) (sym e)
item_at (y ∷ xs) (suc k) x lt e = item_at xs k x (omega (arith, lt)) e

pub all_tables : (P : Table → Type 0) (xs : List Table) (k : ℕ) (x : Table) → AllByRecursion P xs → k < length xs → x ≡ get_or xs k x → P x
all_tables P xs k x h lt is = subst P (sym is) (at xs k h lt)
  where
    at : (ys : List Table) (i : ℕ) → AllByRecursion P ys → i < length ys → P (get_or ys i x)
    at [] i h lt = absurd (omega (arith, lt))
    at (y ∷ ys) zero h lt = h.0
    at (y ∷ ys) (suc i) h lt = at ys i h.1 (omega (arith, lt))

-- the fate at a place
fate-here : (circuit : Circuit) (tables : List Table) (fates : List Role) (k : ℕ) (table : Table) (b : Bool) → fates ≡ map (fate_of circuit) tables → k < length tables → table ≡ get_or tables k table → b ≡ option_map_or is_root_fate (slice_get fates k) false
    → is_root_fate (fate_of circuit table) ≡ b
fate-here circuit tables fates k table b is lt at e =
    sym (e ∙ (ap (λ (fs : List Role). option_map_or is_root_fate (slice_get fs k) false) is ∙ ap (λ (o : Option Role). option_map_or is_root_fate o false) (mapped_get (fate_of circuit) tables k table (item_at tables k table lt at))))

-- the roots of one table more
next-roots : (circuit : Circuit) (tables : List Table) (k : ℕ) (table : Table) (b : Bool) → k < length tables → table ≡ get_or tables k table → is_root_fate (fate_of circuit table) ≡ b
    → filter (λ (t : Table). is_root_fate (fate_of circuit t)) (take (k + 1) tables) ≡ filter (λ (t : Table). is_root_fate (fate_of circuit t)) (take k tables) ++ cond b (table ∷ []) []
next-roots circuit tables k table b lt is e =
    filter_more (λ (t : Table). is_root_fate (fate_of circuit t)) tables k table lt
    ∙ (ap (λ (t : Table). filter (λ (u : Table). is_root_fate (fate_of circuit u)) (take k tables) ++ cond (is_root_fate (fate_of circuit t)) (t ∷ []) []) (sym is)
    ∙ ap (λ (c : Bool). filter (λ (u : Table). is_root_fate (fate_of circuit u)) (take k tables) ++ cond c (table ∷ []) []) e)

-- the roots among the first tables
abbrev pub begun_roots : Circuit → List Table → ℕ → List Table
begun_roots circuit tables k = filter (λ (t : Table). is_root_fate (fate_of circuit t)) (take k tables)

back_nothing : {X : Type 0} (xs : List X) → xs ++ [] ≡ xs
back_nothing [] = refl
back_nothing {X} (x ∷ xs) = ap (λ (ys : List X). x ∷ ys) (back_nothing xs)

pub roots-same : (vs : List Vertex) (names : List (List ℕ)) (tree : List ℕ → Tree (List ℕ)) (tables : List Table) (table : Table) (roots : List Root) (b : Bool) → b ≡ false → AreRoots vs names tree tables roots → AreRoots vs names tree (tables ++ cond b (table ∷ []) []) roots
roots-same vs names tree tables table roots b e are =
    subst (λ (ts : List Table). AreRoots vs names tree ts roots) (sym (ap (λ (c : Bool). tables ++ cond c (table ∷ []) []) e ∙ back_nothing tables)) are

pub roots-one : (vs : List Vertex) (names : List (List ℕ)) (tree : List ℕ → Tree (List ℕ)) (tables : List Table) (table : Table) (roots : List Root) (b : Bool) → b ≡ true → AreRoots vs names tree (tables ++ table ∷ []) roots → AreRoots vs names tree (tables ++ cond b (table ∷ []) []) roots
roots-one vs names tree tables table roots b e are =
    subst (λ (c : Bool). AreRoots vs names tree (tables ++ cond c (table ∷ []) []) roots) (sym e) are

all_read-kept : (old new : List Vertex) (names more : List (List ℕ)) (numbers : List ℕ → Option ℕ) (tree : List ℕ → Tree (List ℕ)) → KeepsTrees old new → KeepsNames names more → AllTaken old numbers
    → (signals : List (List ℕ)) → AreRead old names numbers tree signals → AreRead new more numbers tree signals
all_read-kept old new names more numbers tree kept named taken [] read = tt
all_read-kept old new names more numbers tree kept named taken (signal ∷ signals) read =
    (read-kept old new names more signal (numbers signal) (tree signal) kept named (taken signal) read.0, all_read-kept old new names more numbers tree kept named taken signals read.1)

pub roots-next : (circuit : Circuit) (tables : List Table) (fates : List Role) (first old new : List Vertex) (firsts names more : List (List ℕ)) (numbers : List ℕ → Option ℕ) (k : ℕ) (table : Table) (b : Bool) (roots after : List Root) (tree : List ℕ → Tree (List ℕ))
    → fates ≡ map (fate_of circuit) tables → k < length tables → table ≡ get_or tables k table → b ≡ option_map_or is_root_fate (slice_get fates k) false
    → KeepsTrees first old → KeepsNames firsts names → AllTaken first numbers → ((signals : List (List ℕ)) → AreRead first firsts numbers tree signals)
    → (((trees : List ℕ → Tree (List ℕ)) (others : List Table) → AreRead old names numbers trees table.inputs → (b ≡ true → is_constant table ≡ false) → AreRoots old names trees others roots → AreRoots new more trees (others ++ cond b (table ∷ []) []) after))
    → AreRoots old names tree (begun_roots circuit tables k) roots → AreRoots new more tree (begun_roots circuit tables (k + 1)) after
roots-next circuit tables fates first old new firsts names more numbers k table b roots after tree is lt at e kept named taken read step are =
    let fate : is_root_fate (fate_of circuit table) ≡ b = fate-here circuit tables fates k table b is lt at e in
    subst (λ (ts : List Table). AreRoots new more tree ts after) (sym (next-roots circuit tables k table b lt at fate))
    (step tree (begun_roots circuit tables k) (all_read-kept first old firsts names numbers tree kept named taken table.inputs (read table.inputs)) (λ root. root-full circuit table (fate ∙ root)) are)

pub roots_all : (circuit : Circuit) (tables : List Table) (k : ℕ) → tables ≡ circuit.tables → length tables ≤ k → begun_roots circuit tables k ≡ roots_of circuit
roots_all circuit tables k is le = ap (filter (λ (t : Table). is_root_fate (fate_of circuit t))) (all_of tables k le ∙ is)
  where
    all_of : (ts : List Table) (n : ℕ) → length ts ≤ n → take n ts ≡ ts
    all_of [] zero le = refl
    all_of [] (suc n) le = refl
    all_of (t ∷ ts) zero le = absurd (omega (arith, le))
    all_of (t ∷ ts) (suc n) le = ap (λ (us : List Table). t ∷ us) (all_of ts n (omega (arith, le)))

-- sums of sizes
same_sum : {X : Type 0} (f g : X → ℕ) → ((x : X) → f x ≡ g x) → (xs : List X) → sum_by f xs ≡ sum_by g xs
same_sum f g same [] = refl
same_sum f g same (x ∷ xs) = omega (arith, sum_by-cons f x xs, sum_by-cons g x xs, same x, same_sum f g same xs)

sum_mapped : {X Y : Type 0} (f : X → Y) (g : Y → ℕ) (xs : List X) → sum_by (λ (x : X). g (f x)) xs ≡ sum_by g (map f xs)
sum_mapped f g [] = refl
sum_mapped {X} f g (x ∷ xs) = omega (arith, sum_by-cons (λ (y : X). g (f y)) x xs, sum_by-cons g (f x) (map f xs), sum_mapped f g xs)

word_sum : {X : Type 0} (f : X → ℕ) (xs : List X) → word_count (sum_by (λ (x : X). word_count (f x)) xs) ≡ word_count (sum_by f xs)
word_sum f [] = refl
word_sum {X} f (x ∷ xs) = omega (arith, sum_by-cons (λ (y : X). word_count (f y)) x xs, sum_by-cons f x xs, word_sum f xs)

pub size_there : (ts : List (Tree ℕ)) (n : ℕ) → get_or (map word_size ts) n 1 ≡ word_size (get_or ts n nowhere)
unfolding size_of
size_there [] n = refl
size_there (t ∷ ts) zero = refl
size_there (t ∷ ts) (suc n) = size_there ts n

pub sum_more : (f : Root → ℕ) (roots : List Root) (k : ℕ) (root : Root) (size total : ℕ) → k < length roots → root ≡ get_or roots k root → size ≡ f root → total ≡ word_count (sum_by f (take k roots))
    → word_count (total + size) ≡ word_count (sum_by f (take (k + 1) roots))
sum_more f roots k root size total lt is here before =
    let same : size ≡ f (get_or roots k root) = here ∙ ap f is in
    omega (arith, before, same, sum_by_more f roots k root lt)

pub total-sizes : (vs : List Vertex) (sizes : List ℕ) (roots : List Root) (total : ℕ) → sizes ≡ map word_size (trees vs) → total ≡ word_count (sum_by (λ (root : Root). get_or sizes root.number 1) roots)
    → total ≡ word_count (sum_by (λ (root : Root). size_of (tree_at vs root.number)) roots)
total-sizes vs sizes roots total is e =
    e ∙ (ap word_count (same_sum (λ (root : Root). get_or sizes root.number 1) (λ (root : Root). word_count (size_of (tree_at vs root.number))) (λ root. ap (λ (ns : List ℕ). get_or ns root.number 1) is ∙ size_there (trees vs) root.number) roots)
    ∙ word_sum (λ (root : Root). size_of (tree_at vs root.number)) roots)

-- the sizes of the roots' trees are those of their tables' trees
forest-total : (vs : List Vertex) (names : List (List ℕ)) (tree : List ℕ → Tree (List ℕ)) (tables : List Table) (roots : List Root) → AreRoots vs names tree tables roots
    → sum_by (λ (root : Root). size_of (tree_at vs root.number)) roots ≡ sum_by (λ (table : Table). size_if (tree_over tree table)) tables
forest-total vs names tree tables roots are =
    same_sum (λ (root : Root). size_of (tree_at vs root.number)) (λ (root : Root). size_if (Some (named_tree vs names root))) (λ root. sym (size-renamed (name_at names) (tree_at vs root.number))) roots
    ∙ (sum_mapped (λ (root : Root). Some (named_tree vs names root)) size_if roots
    ∙ (ap (sum_by size_if) (are.trees names (λ place name at. at)) ∙ sym (sum_mapped (tree_over tree) size_if tables)))

too_large : (total size : ℕ) → total ≡ word_count size → MAX_VERTICES < total → MAX_VERTICES < size
too_large total size is lt = omega (arith, is, lt)

not_too_large : (total size : ℕ) → total ≡ word_count size → total ≤ MAX_VERTICES → size ≤ MAX_VERTICES
not_too_large total size is le = omega (arith, is, le)

-- what the sum of the sizes tells of the forest
pub forest_large : (vs ws : List Vertex) (sums roots : List Root) (names : List (List ℕ)) (tree : List ℕ → Tree (List ℕ)) (tables : List Table) (total : ℕ) → total ≡ word_count (sum_by (λ (root : Root). size_of (tree_at vs root.number)) sums)
    → vs ≡ ws → sums ≡ roots → AreRoots ws names tree tables roots → MAX_VERTICES < total → MAX_VERTICES < sum_by (λ (table : Table). size_if (tree_over tree table)) tables
forest_large vs ws sums roots names tree tables total is same all are lt =
    too_large total _ (is ∙ (ap (λ (xs : List Vertex). word_count (sum_by (λ (root : Root). size_of (tree_at xs root.number)) sums)) same
    ∙ (ap (λ (rs : List Root). word_count (sum_by (λ (root : Root). size_of (tree_at ws root.number)) rs)) all ∙ ap word_count (forest-total ws names tree tables roots are)))) lt

pub forest_small : (vs ws : List Vertex) (sums roots : List Root) (names : List (List ℕ)) (tree : List ℕ → Tree (List ℕ)) (tables : List Table) (total : ℕ) → total ≡ word_count (sum_by (λ (root : Root). size_of (tree_at vs root.number)) sums)
    → vs ≡ ws → sums ≡ roots → AreRoots ws names tree tables roots → total ≤ MAX_VERTICES → sum_by (λ (table : Table). size_if (tree_over tree table)) tables ≤ MAX_VERTICES
forest_small vs ws sums roots names tree tables total is same all are le =
    not_too_large total _ (is ∙ (ap (λ (xs : List Vertex). word_count (sum_by (λ (root : Root). size_of (tree_at xs root.number)) sums)) same
    ∙ (ap (λ (rs : List Root). word_count (sum_by (λ (root : Root). size_of (tree_at ws root.number)) rs)) all ∙ ap word_count (forest-total ws names tree tables roots are)))) le

pub roots_small : (vs ws : List Vertex) (sums roots : List Root) (total : ℕ) → total ≡ word_count (sum_by (λ (root : Root). size_of (tree_at vs root.number)) sums) → vs ≡ ws → sums ≡ roots → total ≤ MAX_VERTICES
    → sum_by (λ (root : Root). size_of (tree_at ws root.number)) roots ≤ MAX_VERTICES
roots_small vs ws sums roots total is same all le =
    not_too_large total _ (is ∙ (ap (λ (xs : List Vertex). word_count (sum_by (λ (root : Root). size_of (tree_at xs root.number)) sums)) same
    ∙ ap (λ (rs : List Root). word_count (sum_by (λ (root : Root). size_of (tree_at ws root.number)) rs)) all)) le
