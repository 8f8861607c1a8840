-- Definitions for the search for cycles: which nodes are seen, what a step marks, and what the
-- labels of nodes say. Source: Cormen, Leiserson, Rivest, Stein, "Introduction to Algorithms", part
-- VI (graph search, strong components).
use Rattle.std.specs.Prelude.{ℕ, Bool, true, false, nat_le, List, [], ◌∷◌, ◌++◌, length, slice_index_or, slice_set, if◌then◌else◌}
use Rattle.std.specs.List.{list_any, list_all, range_with_len}
use Rattle.circuit_checks.specs.Graphs.{reads_of}

-- whether a node is seen: its mark, and no for a node without one
unfoldable pub is_seen : List Bool → ℕ → Bool
is_seen seen place = slice_index_or seen place false

-- the marks after nodes have been seen
unfoldable pub marks : List Bool → List ℕ → List Bool
marks seen [] = seen
marks seen (place ∷ places) = marks (slice_set seen place true) places

-- the node, if it is seen for the first time
abbrev pub fresh_one : List Bool → ℕ → List ℕ
fresh_one seen place = if is_seen seen place then [] else place ∷ []

-- those nodes that are seen for the first time
unfoldable pub fresh : List Bool → List ℕ → List ℕ
fresh seen [] = []
fresh seen (place ∷ places) = fresh_one seen place ++ fresh (slice_set seen place true) places

-- the label of a node, 0 if it has none
unfoldable pub label_of : List ℕ → ℕ → ℕ
label_of labels place = slice_index_or labels place 0

-- whether the label of each node is at most a bound
unfoldable pub are_below : List ℕ → ℕ → List ℕ → Bool
are_below labels bound places = list_all (λ place. nat_le (label_of labels place) bound) places

-- whether no edge leads to a greater label
unfoldable pub never_rises : List (List ℕ) → List ℕ → Bool
never_rises graph labels =
    list_all (λ place. are_below labels (label_of labels place) (reads_of graph place)) (range_with_len 0 (length graph))

-- whether some edge from a node leads to a label that is not less
unfoldable pub stays : List (List ℕ) → List ℕ → ℕ → Bool
stays graph labels place = list_any (λ read. nat_le (label_of labels place) (label_of labels read)) (reads_of graph place)
