-- Which pins occur in a formula, and which leaves in a tree.
-- Source: the genlib format of SIS (UCB/ERL M92/41): a gate's pins are the names of its expression.
use Rattle.std.specs.Prelude.{◌≡◌, ℕ, ◌⊎◌}
use Rattle.subject_tree.specs.Trees.{Tree, Leaf, Inv, Nand}
use Rattle.genlib_expr.specs.Formula.{Formula, constant, pin, complement, product, sum}

-- a pin occurs in a formula
unfoldable pub HasPin : ℕ → Formula → Type 0
HasPin place (constant bit) = ⊥
HasPin place (pin other) = other ≡ place
HasPin place (complement e) = HasPin place e
HasPin place (product d e) = HasPin place d ⊎ HasPin place e
HasPin place (sum d e) = HasPin place d ⊎ HasPin place e

-- a leaf occurs in a tree
unfoldable pub HasLeaf : ℕ → Tree ℕ → Type 0
HasLeaf place (Leaf other) = other ≡ place
HasLeaf place (Inv t) = HasLeaf place t
HasLeaf place (Nand t u) = HasLeaf place t ⊎ HasLeaf place u
