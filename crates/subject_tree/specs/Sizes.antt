-- The sizes of the trees of numbered vertices, as a machine word counts.
-- Source: Keutzer, "DAGON: Technology binding and local optimization by DAG matching" (24th Design
-- Automation Conference, 1987): a subject tree is measured by its vertices. A count that exceeds
-- the greatest word is that word.
use Rattle.std.specs.Prelude.{ℕ, ◌+◌, ◌-◌, ◌^◌, List, min, slice_index_or}
use Rattle.subject_tree.specs.Trees.{Tree, size_of}
use Rattle.subject_tree.specs.declared.arena.Vertex.{Vertex}
use Rattle.subject_tree.specs.declared.arena.Vertex.TheVariants.{Leaf, Inv, Nand}

-- a count, at most the greatest word of 64 bits
abbrev pub word_count : ℕ → ℕ
word_count count = min count (2 ^ 64 - 1)

-- the size of a tree as a word
abbrev pub word_size : Tree ℕ → ℕ
word_size t = word_count (size_of t)

-- the size of the tree of a vertex as a word, given those of the trees below it
abbrev pub size_over : List ℕ → Vertex → ℕ
size_over sizes (Leaf place) = 1
size_over sizes (Inv n) = word_count (slice_index_or sizes n 1 + 1)
size_over sizes (Nand m n) = word_count (word_count (slice_index_or sizes m 1 + slice_index_or sizes n 1) + 1)
