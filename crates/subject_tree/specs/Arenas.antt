-- Trees as numbered vertices, each over vertices of lower numbers; equal trees share one number.
-- Source: Keutzer, "DAGON: Technology binding and local optimization by DAG matching" (24th Design
-- Automation Conference, 1987); Ershov, "On programming of arithmetic operations" (Communications
-- of the ACM 1, 1958): one number for each different subterm.
use Rattle.std.specs.Prelude.{◌≡◌, ℕ, ◌<◌, List, [], ◌∷◌, ◌++◌, length, fold, slice_index_or}
use Rattle.subject_tree.specs.Trees.{Tree, Leaf, Inv, Nand}
use Rattle.subject_tree.specs.declared.arena.Vertex.{Vertex}
use Rattle.subject_tree.specs.declared.arena.Vertex.TheVariants.{Leaf as AtLeaf, Inv as AtInv, Nand as AtNand}

-- the tree of a number without a vertex
abbrev pub nowhere : Tree ℕ
nowhere = Leaf 0

-- the tree of a number, where the trees of the vertices are given in order
abbrev pub tree_in : List (Tree ℕ) → ℕ → Tree ℕ
tree_in ts n = slice_index_or ts n nowhere

-- the tree of a vertex over trees that are given in order
abbrev pub built : List (Tree ℕ) → Vertex → Tree ℕ
built ts (AtLeaf place) = Leaf place
built ts (AtInv n) = Inv (tree_in ts n)
built ts (AtNand m n) = Nand (tree_in ts m) (tree_in ts n)

-- trees, and the tree of one more vertex over them
abbrev pub with_vertex : List (Tree ℕ) → Vertex → List (Tree ℕ)
with_vertex ts vertex = ts ++ built ts vertex ∷ []

-- the trees of the vertices, in order
unfoldable pub trees : List Vertex → List (Tree ℕ)
trees vertices = fold with_vertex [] vertices

-- the tree of a number
abbrev pub tree_at : List Vertex → ℕ → Tree ℕ
tree_at vertices n = tree_in (trees vertices) n

-- the vertex of a number; a leaf past the last
abbrev pub vertex_at : List Vertex → ℕ → Vertex
vertex_at vertices n = slice_index_or vertices n (AtLeaf 0)

-- a vertex is over numbers below a bound
abbrev pub IsOver : ℕ → Vertex → Type 0
IsOver bound (AtLeaf place) = Unit {0}
IsOver bound (AtInv n) = n < bound
IsOver bound (AtNand m n) = (m < bound) × (n < bound)

-- each vertex is over lower numbers, the tree of each is what the vertex makes of the trees below
-- it, and no two numbers have one tree
pub record IsArena (vertices : List Vertex) : Type 0 where
  pub over : (n : ℕ) → n < length vertices → IsOver n (vertex_at vertices n)
  pub reads : (n : ℕ) → n < length vertices → tree_at vertices n ≡ built (trees vertices) (vertex_at vertices n)
  pub one : (m n : ℕ) → m < length vertices → n < length vertices → tree_at vertices m ≡ tree_at vertices n → m ≡ n

-- each number that had a tree still has it
abbrev pub KeepsTrees : List Vertex → List Vertex → Type 0
KeepsTrees old new = (n : ℕ) → n < length old → (n < length new) × (tree_at new n ≡ tree_at old n)

-- a number has a tree
abbrev pub Has : List Vertex → ℕ → Tree ℕ → Type 0
Has vertices n t = (n < length vertices) × (tree_at vertices n ≡ t)
