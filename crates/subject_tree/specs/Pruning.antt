-- New numbers of trees, where an arena is made anew.
-- Source: Ershov, "On programming of arithmetic operations" (Communications of the ACM 1, 1958):
-- one number for each different subterm.
use Rattle.std.specs.Prelude.{ℕ, List, slice_index_or}
use Rattle.subject_tree.specs.declared.arena.Vertex.{Vertex}
use Rattle.subject_tree.specs.declared.arena.Vertex.TheVariants.{Leaf, Inv, Nand}
use Rattle.subject_tree.specs.declared.forest.Root.{Root}

-- the new number of a number
abbrev pub number_in : List ℕ → ℕ → ℕ
number_in numbers n = slice_index_or numbers n 0

-- a vertex over the new numbers of its own
abbrev pub renumbered_vertex : List ℕ → Vertex → Vertex
renumbered_vertex numbers (Leaf place) = Leaf place
renumbered_vertex numbers (Inv n) = Inv (number_in numbers n)
renumbered_vertex numbers (Nand m n) = Nand (number_in numbers m) (number_in numbers n)

-- a root with the new number of its own
abbrev pub renumbered_root : List ℕ → Root → Root
renumbered_root numbers root = record { name = root.name; number = number_in numbers root.number }
