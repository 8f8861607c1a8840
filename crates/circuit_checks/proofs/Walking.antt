-- Walks through a graph: the test `leads` against walks of any length, and why as many steps as
-- nodes suffice.
use Rattle.std.proofs.Common.{◌≡◌, ℕ, zero, suc, ◌+◌, ◌<◌, ◌≤◌, Bool, true, false, ◌||◌, List, [], ◌∷◌, length, get_or, refl, sym, ap, ◌∙◌, inl, inr, ◌⊎◌, eqb, arith, subst}
use Rattle.std.proofs.Common.{eqb-true, eq-eqb, All}
use Rattle.std.specs.List.{list_any, IsDistinct, AllByRecursion, range_with_len}
use Rattle.std.proofs.lemmas.Bool.{cases_lt, true≢false, eqb-false}
use Rattle.std.proofs.lemmas.Map.Steps.{length-le_from_distinct_below}
use Rattle.circuit_checks.specs.Graphs.{IsGraph, reads_of, is_among, Walks, leads, is_cyclic}

-- tests on the elements of a list
pub any_from_among : (test : ℕ → Bool) (xs : List ℕ) (x : ℕ) → is_among xs x ≡ true → test x ≡ true → list_any test xs ≡ true
any_from_among test [] x h t = absurd (true≢false (sym h))
any_from_among test (y ∷ ys) x h t = cases (eqb x y) refl (any_from_among test ys x)
  where
    right : (a b : Bool) → b ≡ true → (a || b) ≡ true
    right true b e = refl
    right false b e = e

    cases : (b : Bool) → eqb x y ≡ b → (is_among ys x ≡ true → test x ≡ true → list_any test ys ≡ true) → (test y || list_any test ys) ≡ true
    cases true e rec = rw (ap test (sym (eqb-true x y e)) ∙ t) refl
    cases false e rec = right (test y) (list_any test ys) (rec (sym (ap (λ (b : Bool). b || is_among ys x) e) ∙ h) t)

pub among_first : (x : ℕ) (xs : List ℕ) → is_among (x ∷ xs) x ≡ true
among_first x xs = rw (eq-eqb x x refl) refl

pub among_later : (x y : ℕ) (xs : List ℕ) → is_among xs x ≡ true → is_among (y ∷ xs) x ≡ true
among_later x y xs h = by (eqb x y)
  where
    by : (b : Bool) → (b || is_among xs x) ≡ true
    by true = refl
    by false = h

pub among_from_any : (test : ℕ → Bool) (xs : List ℕ) → list_any test xs ≡ true → (x : ℕ) × (is_among xs x ≡ true) × (test x ≡ true)
among_from_any test [] h = absurd (true≢false (sym h))
among_from_any test (y ∷ ys) h = cases (test y) refl (among_from_any test ys)
  where
    cases : (b : Bool) → test y ≡ b → (list_any test ys ≡ true → (x : ℕ) × (is_among ys x ≡ true) × (test x ≡ true)) → (x : ℕ) × (is_among (y ∷ ys) x ≡ true) × (test x ≡ true)
    cases true e rec = (y, among_first y ys, e)
    cases false e rec =
        let (x, m, t) = rec (sym (ap (λ (b : Bool). b || list_any test ys) e) ∙ h) in
        (x, among_later x y ys m, t)

pub among_range : (n start place : ℕ) → start ≤ place → place < start + n → is_among (range_with_len start n) place ≡ true
among_range zero start place above below = absurd (omega arith)
among_range (suc n) start place above below = cases (eqb place start) refl (λ later. among_range n (start + 1) place later (omega arith))
  where
    cases : (b : Bool) → eqb place start ≡ b → (start + 1 ≤ place → is_among (range_with_len (start + 1) n) place ≡ true)
        → (eqb place start || is_among (range_with_len (start + 1) n) place) ≡ true
    cases true e rec = rw e refl
    cases false e rec =
        among_later place start (range_with_len (start + 1) n) (rec (apart (eqb-false place start e)))
      where
        apart : (place ≡ start → ⊥) → start + 1 ≤ place
        apart differs = omega arith

-- what is read is a node of the graph
among_below : (n : ℕ) (xs : List ℕ) → All (λ place. place < n) xs → (x : ℕ) → is_among xs x ≡ true → x < n
among_below n [] below x h = absurd (true≢false (sym h))
among_below n (y ∷ ys) below x h = cases (eqb x y) refl (among_below n ys (λ k d lt. below (suc k) d (omega arith)) x)
  where
    cases : (b : Bool) → eqb x y ≡ b → (is_among ys x ≡ true → x < n) → x < n
    cases true e rec = omega (arith, below 0 0 (omega arith), eqb-true x y e)
    cases false e rec = rec (sym (ap (λ (b : Bool). b || is_among ys x) e) ∙ h)

past : (graph : List (List ℕ)) (place : ℕ) → length graph ≤ place → get_or graph place [] ≡ []
past [] place h = refl
past (reads ∷ graph) zero h = absurd (omega arith)
past (reads ∷ graph) (suc place) h = past graph place (omega arith)

pub reads_below : (graph : List (List ℕ)) → IsGraph graph → (place : ℕ) → All (λ read. read < length graph) (reads_of graph place)
unfolding reads_of
reads_below graph is_graph place = by (cases_lt place (length graph))
  where
    by : (place < length graph) ⊎ (length graph ≤ place) → All (λ read. read < length graph) (get_or graph place [])
    by (inl lt) = is_graph place [] lt
    by (inr le) = λ k d lt. absurd (omega (arith, lt, ap (λ (xs : List ℕ). length xs) (past graph place le)))

pub read_below : (graph : List (List ℕ)) → IsGraph graph → (place read : ℕ) → is_among (reads_of graph place) read ≡ true → read < length graph
read_below graph is_graph place read h = among_below (length graph) (reads_of graph place) (reads_below graph is_graph place) read h

-- a trail: the nodes of a walk, without the first
unfoldable pub Trail : List (List ℕ) → ℕ → List ℕ → ℕ → Type 0
Trail graph from [] to = from ≡ to
Trail graph from (next ∷ places) to = (is_among (reads_of graph from) next ≡ true) × Trail graph next places to

pub trail_from_walk : (graph : List (List ℕ)) (steps from to : ℕ) → Walks graph (suc steps) from to → (next : ℕ) × (places : List ℕ) × Trail graph from (next ∷ places) to
unfolding Walks Trail
trail_from_walk graph zero from to (next, read, e) = (next, [], (read, e))
trail_from_walk graph (suc steps) from to (next, read, walk) =
    let (after, places, trail) = trail_from_walk graph steps next to walk in
    (next, after ∷ places, (read, trail))

pub walk_from_trail : (graph : List (List ℕ)) (from to : ℕ) (places : List ℕ) → Trail graph from places to → Walks graph (length places) from to
unfolding Walks Trail
walk_from_trail graph from to [] e = e
walk_from_trail graph from to (next ∷ places) (read, trail) = (next, read, walk_from_trail graph next to places trail)

-- the rest of a trail from a node on, without returning to it
cut : (graph : List (List ℕ)) (from to place : ℕ) (places : List ℕ) → Trail graph from places to → IsDistinct eqb places → is_among places place ≡ true
    → (rest : List ℕ) × Trail graph place rest to × IsDistinct eqb (place ∷ rest)
unfolding Trail IsDistinct
cut graph from to place [] trail distinct h = absurd (true≢false (sym h))
cut graph from to place (next ∷ places) (read, trail) distinct h = cases (eqb place next) refl (cut graph next to place places trail distinct.1)
  where
    cases : (b : Bool) → eqb place next ≡ b
        → (is_among places place ≡ true → (rest : List ℕ) × Trail graph place rest to × IsDistinct eqb (place ∷ rest))
        → (rest : List ℕ) × Trail graph place rest to × IsDistinct eqb (place ∷ rest)
    cases true e rec =
        let same : next ≡ place = sym (eqb-true place next e) in
        (places, subst (λ (p : ℕ). Trail graph p places to) same trail, subst (λ (p : ℕ). IsDistinct eqb (p ∷ places)) same distinct)
    cases false e rec = rec (sym (ap (λ (b : Bool). b || is_among places place) e) ∙ h)

none_equal : (x : ℕ) (xs : List ℕ) → is_among xs x ≡ false → AllByRecursion (λ (y : ℕ). eqb x y ≡ false) xs
none_equal x [] h = tt
none_equal x (y ∷ ys) h = (left (eqb x y) (is_among ys x) h, none_equal x ys (right (eqb x y) (is_among ys x) h))
  where
    left : (a b : Bool) → (a || b) ≡ false → a ≡ false
    left true b e = e
    left false b e = refl

    right : (a b : Bool) → (a || b) ≡ false → b ≡ false
    right true b e = absurd (true≢false e)
    right false b e = e

-- a trail without repeated nodes
direct : (graph : List (List ℕ)) (from to next : ℕ) (places : List ℕ) → Trail graph from (next ∷ places) to
    → (rest : List ℕ) × Trail graph from (next ∷ rest) to × IsDistinct eqb (next ∷ rest)
unfolding Trail IsDistinct
direct graph from to next [] (read, trail) = ([], (read, trail), (tt, tt))
direct graph from to next (after ∷ places) (read, trail) =
    let (rest, way, distinct) = direct graph next to after places trail in
    cases rest way distinct (is_among (after ∷ rest) next) refl
  where
    cases : (rest : List ℕ) → Trail graph next (after ∷ rest) to → IsDistinct eqb (after ∷ rest) → (b : Bool) → is_among (after ∷ rest) next ≡ b
        → (rest : List ℕ) × Trail graph from (next ∷ rest) to × IsDistinct eqb (next ∷ rest)
    cases rest way distinct true e =
        let (short, trail, apart) = cut graph next to next (after ∷ rest) way distinct e in
        (short, (read, trail), apart)
    cases rest way distinct false e = (after ∷ rest, (read, way), (none_equal next (after ∷ rest) e, distinct))

-- the nodes of a trail are nodes of the graph
trail_below : (graph : List (List ℕ)) → IsGraph graph → (from to : ℕ) (places : List ℕ) → Trail graph from places to → (place : ℕ) → is_among places place ≡ true → place < length graph
unfolding Trail
trail_below graph is_graph from to [] trail place h = absurd (true≢false (sym h))
trail_below graph is_graph from to (next ∷ places) (read, trail) place h = cases (eqb place next) refl (trail_below graph is_graph next to places trail place)
  where
    cases : (b : Bool) → eqb place next ≡ b → (is_among places place ≡ true → place < length graph) → place < length graph
    cases true e rec = omega (arith, read_below graph is_graph from next read, eqb-true place next e)
    cases false e rec = rec (sym (ap (λ (b : Bool). b || is_among places place) e) ∙ h)

-- a trail that is not longer than the fuel is found
led_by_trail : (graph : List (List ℕ)) (most from to next : ℕ) (places : List ℕ) → length (next ∷ places) ≤ most → Trail graph from (next ∷ places) to → leads graph most from to ≡ true
unfolding Trail leads
led_by_trail graph zero from to next places short trail = absurd (omega arith)
led_by_trail graph (suc most) from to next [] short (read, e) =
    any_from_among (λ one. eqb to one || leads graph most one to) (reads_of graph from) next read (rw (eq-eqb to next (sym e)) refl)
led_by_trail graph (suc most) from to next (after ∷ places) short (read, trail) =
    any_from_among (λ one. eqb to one || leads graph most one to) (reads_of graph from) next read
    (either (eqb to next) (leads graph most next to) (led_by_trail graph most next to after places (omega arith) trail))
  where
    either : (a b : Bool) → b ≡ true → (a || b) ≡ true
    either true b e = refl
    either false b e = e

-- what some walk leads to is led to within as many steps as there are nodes
pub led_from_walk : (graph : List (List ℕ)) → IsGraph graph → (steps from to : ℕ) → Walks graph (suc steps) from to → leads graph (length graph) from to ≡ true
led_from_walk graph is_graph steps from to walk =
    let (next, places, trail) = trail_from_walk graph steps from to walk in
    let (rest, way, distinct) = direct graph from to next places trail in
    led_by_trail graph (length graph) from to next rest
    (length-le_from_distinct_below (next ∷ rest) (length graph) distinct (λ place h. trail_below graph is_graph from to (next ∷ rest) way place h)) way

-- and conversely
pub walk_from_led : (graph : List (List ℕ)) (most from to : ℕ) → leads graph most from to ≡ true → (steps : ℕ) × Walks graph (suc steps) from to
unfolding leads Walks
walk_from_led graph zero from to h = absurd (true≢false (sym h))
walk_from_led graph (suc most) from to h =
    let (next, read, t) = among_from_any (λ one. eqb to one || leads graph most one to) (reads_of graph from) h in
    cases next read (eqb to next) refl t (λ (led : leads graph most next to ≡ true). walk_from_led graph most next to led)
  where
    cases : (next : ℕ) → is_among (reads_of graph from) next ≡ true → (b : Bool) → eqb to next ≡ b → (b || leads graph most next to) ≡ true
        → (leads graph most next to ≡ true → (steps : ℕ) × Walks graph (suc steps) next to)
        → (steps : ℕ) × Walks graph (suc steps) from to
    cases next read true e t rec = (zero, (next, read, sym (eqb-true to next e)))
    cases next read false e t rec =
        let (steps, walk) = rec t in
        (suc steps, (next, read, walk))

-- a node is cyclic exactly if some walk leads from it to itself
pub cyclic_from_walk : (graph : List (List ℕ)) → IsGraph graph → (place steps : ℕ) → Walks graph (suc steps) place place → is_cyclic graph place ≡ true
unfolding is_cyclic
cyclic_from_walk graph is_graph place steps walk = led_from_walk graph is_graph steps place place walk

pub walk_from_cyclic : (graph : List (List ℕ)) (place : ℕ) → is_cyclic graph place ≡ true → (steps : ℕ) × Walks graph (suc steps) place place
unfolding is_cyclic
walk_from_cyclic graph place h = walk_from_led graph (length graph) place place h
