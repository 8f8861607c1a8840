-- Functions known by the numbers of one object: which numbers are valid in a state of the object,
-- for which trees, within which limit on their sizes. The meaning of a number, and whether a
-- function is too big, depend on the bits at each valuation alone, so functions that agree
-- everywhere have the same meaning and are too big for the same limits. Source: R. E. Bryant,
-- "Graph-Based Algorithms for Boolean Function Manipulation", IEEE Transactions on Computers C-35
-- (1986), where a function is known by a vertex of a graph.
use Rattle.std.specs.Prelude.{◌≡◌, ℕ, ◌<◌, ◌≤◌}
use Rattle.func_core.specs.Trees.{BooleanFunction, Tree, IsTreeOf}
use Rattle.func_core.specs.Sizes.{size}

-- a number means a function: it denotes the function's tree, whose size is within the limit
pub record Means {S : Type 0} (holds : S → ℕ → Type 0) (tree : S → ℕ → Tree) (limit : S → ℕ) (state : S) (n : ℕ) (f : BooleanFunction) : Type 0 where
  pub stands : holds state n
  pub is_tree : IsTreeOf f (tree state n)
  pub fits : size (tree state n) ≤ limit state

-- a function is too big for a limit: the size of its tree is above it
pub record IsBig (limit : ℕ) (f : BooleanFunction) : Type 0 where
  pub tree : Tree
  pub is_tree : IsTreeOf f tree
  pub above : limit < size tree

-- each number that was valid before is valid after, for the same tree, and the limit stays
pub record Stays {S : Type 0} (holds : S → ℕ → Type 0) (tree : S → ℕ → Tree) (limit : S → ℕ) (before after : S) : Type 0 where
  pub kept : (n : ℕ) → holds before n → holds after n × (tree after n ≡ tree before n)
  pub same : limit after ≡ limit before

-- no number is valid
abbrev pub NoneStands : {S : Type 0} → (S → ℕ → Type 0) → S → Type 0
NoneStands holds state = (n : ℕ) → holds state n → ⊥
