-- Labels that never rise: a node from which all edges fall is on no cycle.
use Rattle.std.proofs.Common.{◌≡◌, ℕ, zero, suc, ◌+◌, ◌-◌, ◌<◌, ◌≤◌, Bool, true, false, ◌||◌, ◌&&◌, not, cond, Option, Some, None, List, [], ◌∷◌, length, refl, sym, ap, ◌∙◌, inl, inr, ◌⊎◌, eqb, leb, arith}
use Rattle.std.proofs.Common.{eqb-true, leb-true, leb-false, find}
use Rattle.std.specs.List.{list_any, list_all, range_with_len}
use Rattle.std.proofs.lemmas.Bool.{true≢false, cases_lt, cases_Bool}
use Rattle.circuit_checks.specs.Graphs.{IsGraph, reads_of, is_among, Walks, leads, is_cyclic, first_cyclic}
use Rattle.circuit_checks.specs.Searching.{label_of, are_below, never_rises, stays}
use Rattle.circuit_checks.proofs.Walking.{among_range, read_below, walk_from_cyclic, any_from_among, led_from_walk}

-- a test that all elements pass
pub all_at : (test : ℕ → Bool) (xs : List ℕ) → list_all test xs ≡ true → (x : ℕ) → is_among xs x ≡ true → test x ≡ true
all_at test [] h x m = absurd (true≢false (sym m))
all_at test (y ∷ ys) h x m = cases (eqb x y) (test y) refl refl (λ all. all_at test ys all x)
  where
    cases : (a b : Bool) → eqb x y ≡ a → test y ≡ b → (list_all test ys ≡ true → is_among ys x ≡ true → test x ≡ true) → test x ≡ true
    cases a false e t rec = absurd (true≢false (sym h ∙ ap (λ (b : Bool). b && list_all test ys) t))
    cases true true e t rec = ap test (eqb-true x y e) ∙ t
    cases false true e t rec =
        rec (sym (ap (λ (b : Bool). b && list_all test ys) t) ∙ h) (sym (ap (λ (b : Bool). b || is_among ys x) e) ∙ m)

never_above : (graph : List (List ℕ)) (labels : List ℕ) → never_rises graph labels ≡ true → (place read : ℕ) → place < length graph → is_among (reads_of graph place) read ≡ true
    → label_of labels read ≤ label_of labels place
unfolding never_rises are_below
never_above graph labels h place read lt m =
    let here = all_at (λ (place : ℕ). list_all (λ (read : ℕ). leb (label_of labels read) (label_of labels place)) (reads_of graph place)) (range_with_len 0 (length graph)) h place
    (among_range (length graph) 0 place (omega arith) (omega (arith, lt))) in
    leb-true (label_of labels read) (label_of labels place) (all_at (λ (read : ℕ). leb (label_of labels read) (label_of labels place)) (reads_of graph place) here read m)

walk_falls : (graph : List (List ℕ)) → IsGraph graph → (labels : List ℕ) → never_rises graph labels ≡ true → (steps from to : ℕ) → from < length graph → Walks graph steps from to
    → label_of labels to ≤ label_of labels from
unfolding Walks
walk_falls graph is_graph labels h zero from to lt e = omega (arith, ap (λ (x : ℕ). label_of labels x) e)
walk_falls graph is_graph labels h (suc steps) from to lt (next, read, walk) =
    omega (arith, never_above graph labels h from next lt read, walk_falls graph is_graph labels h steps next to (read_below graph is_graph from next read) walk)

falls_first : (graph : List (List ℕ)) (labels : List ℕ) (place read : ℕ) → stays graph labels place ≡ false → is_among (reads_of graph place) read ≡ true → label_of labels read < label_of labels place
unfolding stays
falls_first graph labels place read h m =
    by (cases_Bool (leb (label_of labels place) (label_of labels read)))
  where
    by : (leb (label_of labels place) (label_of labels read) ≡ true) ⊎ (leb (label_of labels place) (label_of labels read) ≡ false) → label_of labels read < label_of labels place
    by (inl e) = absurd (true≢false (sym (any_from_among (λ (read : ℕ). leb (label_of labels place) (label_of labels read)) (reads_of graph place) read m e) ∙ h))
    by (inr e) = leb-false (label_of labels place) (label_of labels read) e

-- if no edge rises and all edges from a node fall, it is not reached from itself
pub not_cyclic : (graph : List (List ℕ)) → IsGraph graph → (labels : List ℕ) (place : ℕ) → never_rises graph labels ≡ true → stays graph labels place ≡ false → is_cyclic graph place ≡ false
unfolding Walks
not_cyclic graph is_graph labels place h s = by (cases_Bool (is_cyclic graph place))
  where
    no_walk : (steps : ℕ) → Walks graph (suc steps) place place → ⊥
    no_walk steps (next, read, walk) =
        let down = falls_first graph labels place next s read in
        let back = walk_falls graph is_graph labels h steps next place (read_below graph is_graph place next read) walk in
        absurd (omega (arith, down, back))

    by : (is_cyclic graph place ≡ true) ⊎ (is_cyclic graph place ≡ false) → is_cyclic graph place ≡ false
    by (inl e) = let (steps, walk) = walk_from_cyclic graph place e in absurd (no_walk steps walk)
    by (inr e) = e

-- the loop over all nodes
pub cyclic_more : (graph : List (List ℕ)) (place : ℕ) → place < length graph
    → find (is_cyclic graph) (range_with_len place (length graph - place)) ≡ cond (is_cyclic graph place) (Some place) (find (is_cyclic graph) (range_with_len (place + 1) (length graph - (place + 1))))
cyclic_more graph place lt = by (length graph - place) (length graph - (place + 1)) (omega arith)
  where
    by : (n m : ℕ) → n ≡ m + 1 → find (is_cyclic graph) (range_with_len place n) ≡ cond (is_cyclic graph place) (Some place) (find (is_cyclic graph) (range_with_len (place + 1) m))
    by zero m e = absurd (omega arith)
    by (suc n) m e = let same : n ≡ m = omega arith in rw same refl

pub cyclic_done : (graph : List (List ℕ)) (place : ℕ) → length graph ≤ place → find (is_cyclic graph) (range_with_len place (length graph - place)) ≡ None
cyclic_done graph place le = let none : length graph - place ≡ 0 = omega arith in rw none refl
