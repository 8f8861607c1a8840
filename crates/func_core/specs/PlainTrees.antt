-- How `PlainFunctions` stores its trees. These words serve its private functions: a caller needs
-- none of them, since each clause of the trait and of the laws is stated without them.
use Rattle.std.specs.Prelude.{◌≡◌, ℕ, ◌<◌, ◌≤◌, ◌||◌, List, map, slice_index_or, length}
use Rattle.std.specs.Set.{is_member}
use Rattle.std.specs.List.{IsDistinct}
use Rattle.func_core.specs.Trees.{Tree, Zero, One, Node, IsReduced}
use Rattle.func_core.specs.Sizes.{tree_eq, size}
use Rattle.func_core.specs.declared.diagram.Diagram.{Diagram, Zero as Zero_, One as One_, Branch'}
use Rattle.func_core.specs.declared.plain.PlainFunctions.{PlainFunctions}

-- the plain tree that a tree in memory stands for
abbrev pub shape : Diagram → Tree
shape Zero_ = Zero
shape One_ = One
shape (Branch' place p lo q hi) = Node place (shape lo) (shape hi)

-- the tree of a number: that at its index in the list
abbrev pub plain_tree : PlainFunctions → ℕ → Tree
plain_tree functions n = slice_index_or (map shape functions.diagrams.items) n Zero

-- a number is valid if the list has its index, and its tree is reduced and within the limit
abbrev pub PlainHolds : PlainFunctions → ℕ → Type 0
PlainHolds functions n =
    (n < length functions.diagrams.items) × IsReduced 0 (plain_tree functions n) × (size (plain_tree functions n) ≤ functions.limit)

-- the limit that was given
abbrev pub plain_limit : PlainFunctions → ℕ
plain_limit functions = functions.limit

-- `all` is `seen` with some more trees, each once
pub record Adds (seen more all : List Tree) : Type 0 where
  pub once : IsDistinct tree_eq seen → IsDistinct tree_eq all
  pub members : (t : Tree) → is_member tree_eq all t ≡ (is_member tree_eq seen t || is_member tree_eq more t)
