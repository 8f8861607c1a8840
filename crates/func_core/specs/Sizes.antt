-- The size of a decision tree: the number of its different inner subtrees, which is the number of
-- nodes that a shared table needs for it. Source: R. E. Bryant, "Graph-Based Algorithms for Boolean
-- Function Manipulation", IEEE Transactions on Computers C-35 (1986).
use Rattle.std.specs.Prelude.{ℕ, Bool, true, false, ◌==◌, ◌&&◌, List, [], ◌∷◌, ◌++◌}
use Rattle.std.specs.Set.{distinct_count}
use Rattle.func_core.specs.Trees.{Tree, Zero, One, Node}

-- whether two trees are equal
unfoldable pub tree_eq : Tree → Tree → Bool
tree_eq Zero Zero = true
tree_eq Zero One = false
tree_eq Zero (Node w c d) = false
tree_eq One Zero = false
tree_eq One One = true
tree_eq One (Node w c d) = false
tree_eq (Node v a b) Zero = false
tree_eq (Node v a b) One = false
tree_eq (Node v a b) (Node w c d) = v == w && (tree_eq a c && tree_eq b d)

-- the inner subtrees, each as often as it occurs
unfoldable pub inner : Tree → List Tree
inner Zero = []
inner One = []
inner (Node place lo hi) = Node place lo hi ∷ (inner lo ++ inner hi)

-- the number of different inner subtrees
unfoldable pub size : Tree → ℕ
size t = distinct_count tree_eq (inner t)
