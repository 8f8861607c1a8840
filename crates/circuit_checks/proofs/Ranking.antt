-- The rank of a node: the number of nodes to which it leads. If no node is reached from itself, it
-- falls on each edge.
use Rattle.std.proofs.Common.{◌≡◌, ℕ, zero, suc, ◌+◌, ◌<◌, ◌≤◌, Bool, true, false, ◌||◌, cond, Option, Some, None, List, [], ◌∷◌, length, refl, sym, ap, ◌∙◌, eqb, arith}
use Rattle.std.proofs.Common.{eqb-true, eq-eqb}
use Rattle.std.specs.Prelude.{find}
use Rattle.std.specs.List.{AllByRecursion, range_with_len}
use Rattle.std.proofs.lemmas.Bool.{true≢false}
use Rattle.circuit_checks.specs.Graphs.{IsGraph, IsRank, reads_of, is_among, Walks, leads, is_cyclic, first_cyclic}
use Rattle.circuit_checks.proofs.Walking.{among_range, read_below, led_from_walk, walk_from_led}

-- the number of some nodes that pass a test
many : (ℕ → Bool) → List ℕ → ℕ
many test [] = 0
many test (x ∷ xs) = cond (test x) 1 0 + many test xs

one_at_most : (a b : Bool) → (a ≡ true → b ≡ true) → cond {A = ℕ} a 1 0 ≤ cond {A = ℕ} b 1 0
one_at_most true true h = omega arith
one_at_most true false h = absurd (true≢false (sym (h refl)))
one_at_most false true h = omega arith
one_at_most false false h = omega arith

many_at_most : (less more : ℕ → Bool) → ((x : ℕ) → less x ≡ true → more x ≡ true) → (xs : List ℕ) → many less xs ≤ many more xs
unfolding many
many_at_most less more h [] = omega arith
many_at_most less more h (x ∷ xs) = omega (arith, one_at_most (less x) (more x) (h x), many_at_most less more h xs)

fewer : (less more : ℕ → Bool) → ((x : ℕ) → less x ≡ true → more x ≡ true) → (place : ℕ) → less place ≡ false → more place ≡ true
    → (xs : List ℕ) → is_among xs place ≡ true → many less xs < many more xs
unfolding many
fewer less more h place misses passes [] m = absurd (true≢false (sym m))
fewer less more h place misses passes (x ∷ xs) m = cases (eqb place x) refl (fewer less more h place misses passes xs)
  where
    cases : (b : Bool) → eqb place x ≡ b → (is_among xs place ≡ true → many less xs < many more xs) → cond (less x) 1 0 + many less xs < cond (more x) 1 0 + many more xs
    cases true e rec =
        let same : place ≡ x = eqb-true place x e in
        let none : ◌≡◌ {A = ℕ} (cond (less x) 1 0) 0 = ap (λ (b : Bool). cond {A = ℕ} b 1 0) (ap less (sym same) ∙ misses) in
        let one : ◌≡◌ {A = ℕ} (cond (more x) 1 0) 1 = ap (λ (b : Bool). cond {A = ℕ} b 1 0) (ap more (sym same) ∙ passes) in
        omega (arith, none, one, many_at_most less more h xs)
    cases false e rec =
        let rest = rec (sym (ap (λ (b : Bool). b || is_among xs place) e) ∙ m) in
        omega (arith, one_at_most (less x) (more x) (h x), rest)

pub rank_of : List (List ℕ) → ℕ → ℕ
rank_of graph place = many (leads graph (length graph) place) (range_with_len 0 (length graph))

pub none_found : (test : ℕ → Bool) (xs : List ℕ) → find test xs ≡ None → (x : ℕ) → is_among xs x ≡ true → test x ≡ false
none_found test [] h x m = absurd (true≢false (sym m))
none_found test (y ∷ ys) h x m = cases (test y) (eqb x y) refl refl (λ n. none_found test ys n x)
  where
    cases : (a b : Bool) → test y ≡ a → eqb x y ≡ b → (find test ys ≡ None → is_among ys x ≡ true → test x ≡ false) → test x ≡ false
    cases true b t e rec = absurd (some_none (ap (λ (c : Bool). cond c (Some y) (find test ys)) t) h)
      where
        some_none : cond (test y) (Some y) (find test ys) ≡ Some y → cond (test y) (Some y) (find test ys) ≡ None → ⊥
        some_none s n = cc
    cases false true t e rec = ap test (eqb-true x y e) ∙ t
    cases false false t e rec =
        rec (sym (ap (λ (c : Bool). cond c (Some y) (find test ys)) t) ∙ h) (sym (ap (λ (c : Bool). c || is_among ys x) e) ∙ m)

pub all_from_among : (P : ℕ → Type 0) (xs : List ℕ) → ((x : ℕ) → is_among xs x ≡ true → P x) → AllByRecursion P xs
all_from_among P [] h = tt
all_from_among P (x ∷ xs) h = (h x (first x), all_from_among P xs (λ y m. h y (later y m)))
  where
    first : (y : ℕ) → is_among (y ∷ xs) y ≡ true
    first y = rw (eq-eqb y y refl) refl

    later : (y : ℕ) → is_among xs y ≡ true → (eqb y x || is_among xs y) ≡ true
    later y m = by (eqb y x)
      where
        by : (b : Bool) → (b || is_among xs y) ≡ true
        by true = refl
        by false = m

not_cyclic : (graph : List (List ℕ)) → first_cyclic graph ≡ None → (place : ℕ) → place < length graph → is_cyclic graph place ≡ false
unfolding first_cyclic
not_cyclic graph h place lt =
    none_found (is_cyclic graph) (range_with_len 0 (length graph)) h place (among_range (length graph) 0 place (omega arith) (omega (arith, lt)))

-- what is read leads to less
falls_at : (graph : List (List ℕ)) → IsGraph graph → first_cyclic graph ≡ None → (place read : ℕ) → is_among (reads_of graph place) read ≡ true → rank_of graph read < rank_of graph place
unfolding rank_of Walks is_cyclic
falls_at graph is_graph h place read m =
    let lt = read_below graph is_graph place read m in
    fewer (leads graph (length graph) read) (leads graph (length graph) place)
    (λ x led. further x (walk_from_led graph (length graph) read x led))
    read (apart (not_cyclic graph h read lt)) near
    (range_with_len 0 (length graph)) (among_range (length graph) 0 read (omega arith) (omega (arith, lt)))
  where
    further : (x : ℕ) → (steps : ℕ) × Walks graph (suc steps) read x → leads graph (length graph) place x ≡ true
    further x (steps, walk) = led_from_walk graph is_graph (suc steps) place x (read, m, walk)

    near : leads graph (length graph) place read ≡ true
    near = led_from_walk graph is_graph zero place read (read, m, refl)

    apart : is_cyclic graph read ≡ false → leads graph (length graph) read read ≡ false
    apart e = e

-- if no node is reached from itself, the rank falls on each edge
pub ranked_from_none : (graph : List (List ℕ)) → IsGraph graph → first_cyclic graph ≡ None → IsRank graph (rank_of graph)
ranked_from_none graph is_graph h place =
    all_from_among (λ read. rank_of graph read < rank_of graph place) (reads_of graph place) (λ read m. falls_at graph is_graph h place read m)
