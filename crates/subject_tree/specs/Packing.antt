-- Vertices as two small numbers each.
-- Source: Ershov, "On programming of arithmetic operations" (Communications of the ACM 1, 1958): an
-- operation is written as the numbers of its operands. That the kind is encoded by a number that is
-- none is the project's own.
use Rattle.std.specs.Prelude.{ℕ, Bool, true, false, ◌==◌}
use Rattle.subject_tree.specs.declared.arena.Vertex.{Vertex}
use Rattle.subject_tree.specs.declared.arena.Vertex.TheVariants.{Leaf, Inv, Nand}
use Rattle.subject_tree.specs.declared.packing.Packed.{Packed}

-- the vertex of two numbers, by whether the first and the second are none
abbrev pub vertex_by : Bool → Bool → ℕ → ℕ → Vertex
vertex_by true lone first second = Leaf second
vertex_by false true first second = Inv first
vertex_by false false first second = Nand first second

-- the vertex that is packed
abbrev pub unpacked : Packed → Vertex
unpacked packed = vertex_by (packed.first == 4294967295) (packed.second == 4294967295) packed.first packed.second
