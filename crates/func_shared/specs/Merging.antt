-- The result of an operation on bits, applied to trees. Source: R. E. Bryant, "Graph-Based
-- Algorithms for Boolean Function Manipulation", IEEE Transactions on Computers C-35 (1986),
-- "apply" and the Shannon expansion.
use Rattle.std.specs.Prelude.{◌≡◌, ℕ, suc, Bool, true, false, if◌then◌else◌, nat_lt}
use Rattle.func_core.specs.Trees.{Tree, Zero, One, Node, eval, IsReduced}
use Rattle.func_core.specs.Sizes.{tree_eq}
use Rattle.func_core.specs.Operations.{bits}
use Rattle.func_core.specs.declared.operation.Operation.{Operation}

-- a node, or its half if both halves are equal
unfoldable pub joined : ℕ → Tree → Tree → Tree
joined place low high = if tree_eq low high then low else Node place low high

-- the constant of a bit
abbrev pub leaf : Bool → Tree
leaf false = Zero
leaf true = One

-- the result of an operation on a bit and a tree
unfoldable pub merged_bit : Operation → Bool → Tree → Tree
merged_bit operation bit Zero = leaf (bits operation bit false)
merged_bit operation bit One = leaf (bits operation bit true)
merged_bit operation bit (Node place low high) =
    joined place (merged_bit operation bit low) (merged_bit operation bit high)

-- the result of an operation on a node and a tree, given its results on the node's halves and any
-- tree
unfoldable pub merged_node : Operation → ℕ → Tree → Tree → (Tree → Tree) → (Tree → Tree) →
    Tree → Tree
merged_node operation place low high of_low of_high Zero =
    merged_bit operation false (Node place low high)
merged_node operation place low high of_low of_high One =
    merged_bit operation true (Node place low high)
merged_node operation place low high of_low of_high (Node other lo hi) =
    if nat_lt place other then joined place (of_low (Node other lo hi)) (of_high (Node other lo hi))
    else (if nat_lt other place then joined other
    (merged_node operation place low high of_low of_high lo)
    (merged_node operation place low high of_low of_high hi)
    else joined place (of_low lo) (of_high hi))

-- the result of an operation on two trees
unfoldable pub merged : Operation → Tree → Tree → Tree
merged operation Zero other = merged_bit operation false other
merged operation One other = merged_bit operation true other
merged operation (Node place low high) other =
    merged_node operation place low high (merged operation low) (merged operation high) other

-- two trees above a variable are the halves of a tree there; a tree that does not read the variable
-- is itself both halves
pub record SplitsAt (place : ℕ) (t low high : Tree) : Type 0 where
  pub low_reduced : IsReduced (suc place) low
  pub high_reduced : IsReduced (suc place) high
  pub computes : (point : ℕ → Bool) →
      eval t point ≡ (if point place then eval high point else eval low point)
