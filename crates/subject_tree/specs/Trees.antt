-- Subject trees: a network before gates are chosen for it, over two-input NANDs and inverters
-- alone.
-- Source: Keutzer, "DAGON: Technology binding and local optimization by DAG matching" (24th Design
-- Automation Conference, 1987); Rudell, "Logic Synthesis for VLSI Design" (thesis, University of
-- California, Berkeley, 1989), the chapter on technology mapping. A subject tree has signals as its
-- leaves; a gate's pattern is such a tree over the gate's pins.
use Rattle.std.specs.Prelude.{ℕ, ◌+◌, Bool, not, ◌&&◌}

-- a leaf, an inverter over a tree, or a NAND over two trees
pub data Tree (A : Type 0) : Type 0 where
  Leaf : A → Tree A
  Inv : Tree A → Tree A
  Nand : Tree A → Tree A → Tree A

-- the complement of a tree: an inverter at its root is removed, and otherwise one is added
abbrev pub complement_of : {A : Type 0} → Tree A → Tree A
complement_of (Leaf leaf) = Inv (Leaf leaf)
complement_of (Inv t) = t
complement_of (Nand t u) = Inv (Nand t u)

-- the product of two trees: an inverter over their NAND
abbrev pub product_of : {A : Type 0} → Tree A → Tree A → Tree A
product_of t u = Inv (Nand t u)

-- the sum of two trees: the NAND of their complements
abbrev pub sum_of : {A : Type 0} → Tree A → Tree A → Tree A
sum_of t u = Nand (complement_of t) (complement_of u)

-- the value of a tree, given the values of its leaves
unfoldable pub value_at : {A : Type 0} → (A → Bool) → Tree A → Bool
value_at value (Leaf leaf) = value leaf
value_at value (Inv t) = not (value_at value t)
value_at value (Nand t u) = not (value_at value t && value_at value u)

-- the number of vertices of a tree, its leaves included
unfoldable pub size_of : {A : Type 0} → Tree A → ℕ
size_of (Leaf leaf) = 1
size_of (Inv t) = size_of t + 1
size_of (Nand t u) = size_of t + size_of u + 1

-- the tree with each leaf replaced by its image
unfoldable pub renamed : {A B : Type 0} → (A → B) → Tree A → Tree B
renamed rename (Leaf leaf) = Leaf (rename leaf)
renamed rename (Inv t) = Inv (renamed rename t)
renamed rename (Nand t u) = Nand (renamed rename t) (renamed rename u)
