-- Reduced trees as numbered vertices of one table, in which equal trees have one number: 0 and 1
-- are the constants, and each vertex is over lower numbers.
-- Source: R. E. Bryant, "Graph-Based Algorithms for Boolean Function Manipulation", IEEE
-- Transactions on Computers C-35 (1986), where a function is a vertex of a graph; K. S. Brace, R.
-- L. Rudell and R. E. Bryant, "Efficient Implementation of a BDD Package" (27th Design Automation
-- Conference, 1990), for the one table of different vertices.
use Rattle.std.specs.Prelude.{◌≡◌, ℕ, ◌+◌, ◌<◌, ◌≤◌, true, Some, List, [], ◌∷◌, ◌++◌, ◌⊎◌, length, fold, take, slice_get, slice_index_or}
use Rattle.std.specs.Set.{is_member}
use Rattle.func_core.specs.Trees.{Tree, Zero, One, Node, IsReduced}
use Rattle.func_core.specs.Sizes.{tree_eq, inner}
use Rattle.func_shared.specs.declared.vertex.Vertex.{Vertex}

-- the tree of a number, if the trees of numbers are given in order
abbrev pub tree_in : List Tree → ℕ → Tree
tree_in ts n = slice_index_or ts n Zero

-- the trees with that of one more vertex, over them
abbrev pub with_vertex : List Tree → Vertex → List Tree
with_vertex ts vertex =
    ts ++ Node vertex.place (tree_in ts vertex.low) (tree_in ts vertex.high) ∷ []

-- the trees of numbers, in order: the constants, then one for each vertex
unfoldable pub trees : List Vertex → List Tree
trees vertices = fold with_vertex (Zero ∷ One ∷ []) vertices

-- the tree of a number
abbrev pub tree_at : List Vertex → ℕ → Tree
tree_at vertices n = tree_in (trees vertices) n

-- a number is that of a constant or of a vertex
abbrev pub IsNumber : List Vertex → ℕ → Type 0
IsNumber vertices n = n < 2 + length vertices

-- a number has a tree
abbrev pub Has : List Vertex → ℕ → Tree → Type 0
Has vertices n t = IsNumber vertices n × (tree_at vertices n ≡ t)

-- no two numbers have one tree
abbrev pub AreDifferent : List Vertex → Type 0
AreDifferent vertices =
    (m n : ℕ) → IsNumber vertices m → IsNumber vertices n
    → tree_at vertices m ≡ tree_at vertices n → m ≡ n

-- each vertex is over lower numbers, no two numbers have one tree, each tree is reduced, and a
-- number has 32 bits
pub record IsTable (vertices : List Vertex) : Type 0 where
  pub below : (n : ℕ) (vertex : Vertex) → slice_get vertices n ≡ Some vertex
      → (vertex.low < 2 + n) × (vertex.high < 2 + n)
  pub one : AreDifferent vertices
  pub reduced : (n : ℕ) → IsReduced 0 (tree_at vertices n)
  pub short : 2 + length vertices ≤ 4294967296

-- vertices are appended, so each number that had a tree still has it
abbrev pub Grows : List Vertex → List Vertex → Type 0
Grows old new = take (length old) new ≡ old

-- the tree of each new number is an inner subtree of a tree
abbrev pub AddsWithin : List Vertex → List Vertex → Tree → Type 0
AddsWithin old new t =
    (n : ℕ) → IsNumber new n → IsNumber old n ⊎ (is_member tree_eq (inner t) (tree_at new n) ≡ true)
