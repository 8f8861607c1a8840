-- What is left of tables as tables, by the covers of the roots and by their trees.
use Rattle.std.proofs.Common.{◌≡◌, ℕ, cond, Option, Some, List, []}
use Rattle.std.proofs.Common.{◌∷◌}
use Rattle.std.proofs.Common.{◌++◌, map, filter, length, refl, ◌∙◌, ap, ap₂}
use Rattle.std.specs.Prelude.{option_map, option_to_list, flat_map}
use Rattle.std.specs.List.{AllByRecursion}
use Rattle.std.specs.declared.cmp.Ordering.{Ordering}
use Rattle.std.proofs.lemmas.Option.{slice_get-get_or}
use Rattle.circuit_model.specs.declared.circuit.Table.{Table}
use Rattle.subject_tree.specs.Trees.{Tree, Leaf, Inv, Nand, renamed}
use Rattle.subject_tree.specs.Order.{name_at, LeavesBelow}
use Rattle.subject_tree.specs.Roots.{is_root_fate, tree_over, named_tree}
use Rattle.subject_tree.specs.declared.forest.Root.{Root}
use Rattle.subject_tree.specs.declared.judging.Role.{Role}
use Rattle.subject_tree.specs.declared.judging.Role.TheVariants.{Constant, Put, Unused}
use Rattle.subject_tree.specs.declared.judging.Role.TheVariants.{Root as RootFate}
use Rattle.tree_cover.specs.Covers.{Tile, Matches, IsProper, Fits}
use Rattle.tree_cover.specs.Written.{IsWritten, written_leaf, written_gate}
use Rattle.tree_cover.specs.declared.writing.Signal.{Signal}
use Rattle.tree_cover.specs.declared.writing.CoverGate.{CoverGate}
use Rattle.map_net.specs.declared.covers.TreeCover.{TreeCover}
use Rattle.map_net.specs.Covering.{Covering, tree_of, AreTaken}
use Rattle.map_net.specs.Mapping.{buffer, left_by}
use Rattle.map_net.specs.Working.{root_left, left_from}

-- no pattern that is more than a pin matches a leaf
no_leaf : (pattern : Tree ℕ) (leaf : ℕ) (bound : List (Tree ℕ)) → IsProper pattern
    → Matches pattern (Leaf leaf) bound → ⊥
unfolding IsProper Matches
no_leaf (Leaf pin) leaf bound proper h = proper
no_leaf (Inv p) leaf bound proper h = h
no_leaf (Nand p q) leaf bound proper h = h

-- what is left of a root by what drives it is what is left by its tree
root_is : (cmp : Tree ℕ → Tree ℕ → Ordering) (library : List Tile) (names : List (List ℕ))
    (table : Table) (t : Tree ℕ) (start : ℕ) (signal : Signal) (gates : List CoverGate)
    → IsWritten cmp library t start signal gates → LeavesBelow (length names) t
    → root_left names table signal ≡ left_by RootFate (Some (renamed (name_at names) t)) table
unfolding renamed LeavesBelow
root_is cmp library names table t s signal gates (written_leaf place start) below =
    ap (λ (found : Option (List ℕ)).
    option_to_list (option_map (λ (name : List ℕ). buffer name table.output) found))
    (slice_get-get_or names place [] below)
root_is cmp library names table t s signal gates
    (written_gate u start cost place bound pins before given are) below =
    whole u given.stands.fits
  where
    whole : (u : Tree ℕ) → Fits given.stands.tile u bound
        → [] ≡ left_by RootFate (Some (renamed (name_at names) u)) table
    whole (Leaf leaf) fits = absurd (no_leaf fits.pattern leaf bound fits.proper fits.matches)
    whole (Inv u) fits = refl
    whole (Nand u v) fits = refl

head_same : {A : Type 0} (x y : A) (xs ys : List A) → x ∷ xs ≡ y ∷ ys → x ≡ y
head_same x y xs ys e = let off = e in cc

tail_same : {A : Type 0} (x y : A) (xs ys : List A) → x ∷ xs ≡ y ∷ ys → xs ≡ ys
tail_same x y xs ys e = let off = e in cc

-- the trees of roots are those of the tables that are roots
abbrev pub over : Covering → Root → Option (Tree (List ℕ))
over covering root = Some (named_tree covering.vertices covering.names root)

abbrev pub rooted : (Table → Role) → List Table → List Table
rooted fate tables = filter (λ (table : Table). is_root_fate (fate table)) tables

pub left_is : (covering : Covering) (fate : Table → Role) (tree : List ℕ → Tree (List ℕ))
    (tables : List Table) (roots : List Root) (covers : List TreeCover)
    → map (over covering) roots ≡ map (tree_over tree) (rooted fate tables)
    → AllByRecursion (λ root. LeavesBelow (length covering.names) (tree_of covering root)) roots
    → AreTaken covering roots covers
    → left_from covering.names (map fate tables) tables covers
    ≡ flat_map (λ (table : Table). left_by (fate table) (tree_over tree table) table) tables
unfolding left_from AreTaken
left_is covering fate tree [] roots covers same below taken = refl
left_is covering fate tree (table ∷ tables) roots covers same below taken =
    by (fate table) roots covers same below taken (λ rs cs s b t. left_is covering fate tree tables
    rs cs s b t)
  where
    left : Table → List Table
    left table = left_by (fate table) (tree_over tree table) table

    by : (f : Role) (rs : List Root) (cs : List TreeCover)
        → map (over covering) rs
        ≡ map (tree_over tree) (cond (is_root_fate f) (table ∷ rooted fate tables)
        (rooted fate tables))
        → AllByRecursion (λ root. LeavesBelow (length covering.names) (tree_of covering root)) rs
        → AreTaken covering rs cs
        → ((rs : List Root) (cs : List TreeCover)
        → map (over covering) rs ≡ map (tree_over tree) (rooted fate tables)
        → AllByRecursion (λ root. LeavesBelow (length covering.names) (tree_of covering root)) rs
        → AreTaken covering rs cs
        → left_from covering.names (map fate tables) tables cs
        ≡ flat_map (λ (table : Table). left_by (fate table) (tree_over tree table) table) tables)
        → left_from covering.names (f ∷ map fate tables) (table ∷ tables) cs
        ≡ left_by f (tree_over tree table) table
        ++ flat_map (λ (table : Table). left_by (fate table) (tree_over tree table) table) tables
    by Constant rs cs s b t rest = ap (λ (xs : List Table). table ∷ xs) (rest rs cs s b t)
    by Put rs cs s b t rest = rest rs cs s b t
    by Unused rs cs s b t rest = rest rs cs s b t
    by RootFate [] cs s b t rest = absurd (let off = s in cc)
    by RootFate (root ∷ rs) [] s b t rest = absurd t
    by RootFate (root ∷ rs) (cover ∷ cs) s b t rest =
        ap₂ (λ (xs ys : List Table). xs ++ ys)
        (root_is _ _ covering.names table (tree_of covering root) 0 cover.root cover.gates
        t.0.written b.0
        ∙ ap (λ (o : Option (Tree (List ℕ))). left_by RootFate o table) (head_same _ _ _ _ s))
        (rest rs cs (tail_same _ _ _ _ s) b.1 t.1)
