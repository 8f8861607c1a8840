-- Graphs over numbers: the edges of a node, walks, and the nodes that are reached from themselves.
-- Source: Tarjan, "Depth-first search and linear graph algorithms" (SIAM J. Computing 1, 1972);
-- Cormen, Leiserson, Rivest, Stein, "Introduction to Algorithms", appendix B.4 (paths and cycles of
-- a directed graph). A graph is a list: at each index it lists the successors of that node.
use Rattle.std.specs.Prelude.{◌≡◌, ℕ, zero, suc, ◌+◌, ◌<◌, ◌==◌, Bool, true, false, ◌||◌, Option, None, List, [], All, slice_index_or, length, find}
use Rattle.std.specs.List.{list_any, AllByRecursion, range_with_len}

-- each edge leads to a node of the graph
abbrev pub IsGraph : List (List ℕ) → Type 0
IsGraph graph = All (All (λ place. place < length graph)) graph

-- the successors of a node
unfoldable pub reads_of : List (List ℕ) → ℕ → List ℕ
reads_of graph place = slice_index_or graph place []

-- whether a node is in a list
abbrev pub is_among : List ℕ → ℕ → Bool
is_among places place = list_any (λ one. place == one) places

-- a walk of a number of steps, each along an edge
unfoldable pub Walks : List (List ℕ) → ℕ → ℕ → ℕ → Type 0
Walks graph zero from to = from ≡ to
Walks graph (suc steps) from to =
    (next : ℕ) × (is_among (reads_of graph from) next ≡ true) × Walks graph steps next to

-- whether some walk of at least one step and at most the given number leads from one node to
-- another
unfoldable pub leads : List (List ℕ) → ℕ → ℕ → ℕ → Bool
leads graph zero from to = false
leads graph (suc most) from to = list_any (λ next. to == next || leads graph most next to) (reads_of graph from)

-- whether a node is reached from itself; as many steps as there are nodes suffice
unfoldable pub is_cyclic : List (List ℕ) → ℕ → Bool
is_cyclic graph place = leads graph (length graph) place place

-- the first node that is reached from itself
unfoldable pub first_cyclic : List (List ℕ) → Option ℕ
first_cyclic graph = find (is_cyclic graph) (range_with_len 0 (length graph))

-- a rank falls on each edge from a node to a successor
abbrev pub IsRank : List (List ℕ) → (ℕ → ℕ) → Type 0
IsRank graph rank = (place : ℕ) → AllByRecursion (λ read. rank read < rank place) (reads_of graph place)
