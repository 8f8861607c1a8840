-- The order of subject trees, by which ties are broken: a leaf before an inverter before a NAND,
-- leaves by their names, inverters by the trees below them, NANDs by the left tree, then by the
-- right one.
-- Source: the lexicographic order of terms over ranked symbols (Baader and Nipkow, "Term Rewriting
-- and All That", 1998, chapter 5); that ties are broken by it is the project's own.
use Rattle.std.specs.Prelude.{◌≡◌, ℕ, ◌<◌, Some, List, [], slice_get, slice_index_or}
use Rattle.std.specs.Ordering.{ordering_then, then_cmp, on, nat_cmp}
use Rattle.std.specs.Cmp.Lexicographic.{slice_cmp}
use Rattle.std.specs.declared.cmp.Ordering.{Ordering}
use Rattle.std.specs.declared.cmp.Ordering.TheVariants.{Less, Greater}
use Rattle.subject_tree.specs.Trees.{Tree, Leaf, Inv, Nand}

-- how two trees compare, given how their leaves do
unfoldable pub tree_cmp : {A : Type 0} → (A → A → Ordering) → Tree A → Tree A → Ordering
tree_cmp cmp (Leaf x) (Leaf y) = cmp x y
tree_cmp cmp (Leaf x) (Inv v) = Less
tree_cmp cmp (Leaf x) (Nand v w) = Less
tree_cmp cmp (Inv t) (Leaf y) = Greater
tree_cmp cmp (Inv t) (Inv v) = tree_cmp cmp t v
tree_cmp cmp (Inv t) (Nand v w) = Less
tree_cmp cmp (Nand t u) (Leaf y) = Greater
tree_cmp cmp (Nand t u) (Inv v) = Greater
tree_cmp cmp (Nand t u) (Nand v w) = ordering_then (tree_cmp cmp t v) (tree_cmp cmp u w)

-- how names compare: byte by byte, a prefix before what it begins
abbrev pub name_cmp : List ℕ → List ℕ → Ordering
name_cmp one other = slice_cmp nat_cmp one other

-- the name at an index of a list, empty past its end
abbrev pub name_at : List (List ℕ) → ℕ → List ℕ
name_at names place = slice_index_or names place []

-- how indices into a list of names compare: by the names there, and if these are one, by the
-- indices
abbrev pub place_cmp : List (List ℕ) → ℕ → ℕ → Ordering
place_cmp names = then_cmp (on (name_at names) name_cmp) nat_cmp

-- each index that had a name still has it
abbrev pub KeepsNames : List (List ℕ) → List (List ℕ) → Type 0
KeepsNames old new = (place : ℕ) (name : List ℕ) → slice_get old place ≡ Some name → slice_get new place ≡ Some name

-- each leaf of a tree is an index below a bound
unfoldable pub LeavesBelow : ℕ → Tree ℕ → Type 0
LeavesBelow bound (Leaf place) = place < bound
LeavesBelow bound (Inv t) = LeavesBelow bound t
LeavesBelow bound (Nand t u) = LeavesBelow bound t × LeavesBelow bound u
