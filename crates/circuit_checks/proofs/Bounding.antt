-- A test that a list of lists is a graph.
use Rattle.std.proofs.Common.{◌≡◌, ℕ, ◌<◌, Bool, true, false, ◌&&◌, List, [], ◌∷◌, length, sym, ◌∙◌, ltb, ltb-true, All}
use Rattle.std.specs.List.{list_all, AllByRecursion}
use Rattle.std.proofs.lemmas.Bool.{and_parts, true≢false}
use Rattle.std.proofs.lemmas.List.Elements.{All-from_recursion}
use Rattle.circuit_checks.specs.Graphs.{IsGraph}

pub all_less : (n : ℕ) (xs : List ℕ) → list_all (λ (x : ℕ). ltb x n) xs ≡ true → AllByRecursion (λ (x : ℕ). x < n) xs
all_less n [] h = tt
all_less n (x ∷ xs) h =
    let (first, rest) = and_parts (ltb x n) (list_all (λ (x : ℕ). ltb x n) xs) h in
    (ltb-true x n first, all_less n xs rest)

all_lists : (n : ℕ) (graph : List (List ℕ)) → list_all (λ (reads : List ℕ). list_all (λ (x : ℕ). ltb x n) reads) graph ≡ true → AllByRecursion (λ (reads : List ℕ). All (λ (x : ℕ). x < n) reads) graph
all_lists n [] h = tt
all_lists n (reads ∷ graph) h =
    let (first, rest) = and_parts (list_all (λ (x : ℕ). ltb x n) reads) (list_all (λ (reads : List ℕ). list_all (λ (x : ℕ). ltb x n) reads) graph) h in
    (All-from_recursion (λ (x : ℕ). x < n) reads (all_less n reads first), all_lists n graph rest)

-- where the test passes, the lists are a graph
pub graph_from_test : (graph : List (List ℕ)) → list_all (λ (reads : List ℕ). list_all (λ (x : ℕ). ltb x (length graph)) reads) graph ≡ true → IsGraph graph
graph_from_test graph h =
    All-from_recursion (λ (reads : List ℕ). All (λ (x : ℕ). x < length graph) reads) graph (all_lists (length graph) graph h)
