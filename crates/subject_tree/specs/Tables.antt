-- The subject tree of a table over the trees of its inputs.
-- Source: Rudell, "Logic Synthesis for VLSI Design" (thesis, University of California, Berkeley,
-- 1989), the chapter on technology mapping: each node's sum of products as NANDs and inverters.
-- That sums and products are joined from the last to the first is the project's own.
use Rattle.std.specs.Prelude.{◌≡◌, ℕ, ◌<◌, Bool, true, false, not, ◌||◌, Option, Some, None, List, [], ◌∷◌, ◌++◌, map, length, option_map, option_to_list, ◌==◌}
use Rattle.std.specs.List.{AllByRecursion, list_any}
use Rattle.circuit_model.specs.Counts.{is_literal}
use Rattle.circuit_model.specs.declared.circuit.Tri.{Tri}
use Rattle.circuit_model.specs.declared.circuit.Tri.TheVariants.{Zero, One, Free}
use Rattle.circuit_model.specs.declared.circuit.Table.{Table}
use Rattle.subject_tree.specs.Trees.{Tree, complement_of, product_of, sum_of}
use Rattle.subject_tree.specs.Arenas.{tree_at}
use Rattle.subject_tree.specs.declared.arena.Vertex.{Vertex}

-- a tree joined to the next one, if there is one
abbrev pub with_front : {A : Type 0} → (Tree A → Tree A → Tree A) → Tree A → Option (Tree A) → Tree A
with_front join t None = t
with_front join t (Some behind) = join t behind

-- trees joined from the last to the first; none if there is no tree
unfoldable pub joined : {A : Type 0} → (Tree A → Tree A → Tree A) → List (Tree A) → Option (Tree A)
joined join [] = None
joined join (t ∷ ts) = Some (with_front join t (joined join ts))

-- the tree of a character's literal over its input's tree; none for a dash
abbrev pub literal_tree : {A : Type 0} → Tri → Tree A → Option (Tree A)
literal_tree Zero t = Some (complement_of t)
literal_tree One t = Some t
literal_tree Free t = None

-- the trees of a row's literals, in order
unfoldable pub literal_trees : {A : Type 0} → List (Tree A) → List Tri → List (Tree A)
literal_trees [] row = []
literal_trees (t ∷ ts) [] = []
literal_trees (t ∷ ts) (character ∷ row) = option_to_list (literal_tree character t) ++ literal_trees ts row

-- the tree of a row: the product of its literals; none if it has no literal
abbrev pub row_tree : {A : Type 0} → List (Tree A) → List Tri → Option (Tree A)
row_tree inputs row = joined product_of (literal_trees inputs row)

-- the trees of the rows that have literals, in order
unfoldable pub row_trees : {A : Type 0} → List (Tree A) → List (List Tri) → List (Tree A)
row_trees inputs [] = []
row_trees inputs (row ∷ rows) = option_to_list (row_tree inputs row) ++ row_trees inputs rows

-- a tree if the phase is 1, else its complement
abbrev pub by_phase : {A : Type 0} → Bool → Tree A → Tree A
by_phase true t = t
by_phase false t = complement_of t

-- the tree of a table: the sum of its rows, or the complement of that, by phase; none if no row has
-- a literal
abbrev pub table_tree : {A : Type 0} → List (Tree A) → Table → Option (Tree A)
table_tree inputs table = option_map (by_phase table.phase) (joined sum_of (row_trees inputs table.rows))

-- a row without literals
abbrev pub is_blank : List Tri → Bool
is_blank row = not (list_any is_literal row)

-- a constant table: no row, or a row without literals
unfoldable pub is_constant : Table → Bool
is_constant table = length table.rows == 0 || list_any is_blank table.rows

-- the trees of numbers, in order
abbrev pub trees_of : List Vertex → List ℕ → List (Tree ℕ)
trees_of vertices numbers = map (tree_at vertices) numbers

-- each of some numbers is taken
abbrev pub AreTaken : List Vertex → List ℕ → Type 0
AreTaken vertices numbers = AllByRecursion (λ n. n < length vertices) numbers

-- the number of a tree, if there is a tree, and none otherwise
abbrev pub Finds : List Vertex → Option ℕ → Option (Tree ℕ) → Type 0
Finds vertices None tree = tree ≡ None
Finds vertices (Some n) tree = (n < length vertices) × (tree ≡ Some (tree_at vertices n))
