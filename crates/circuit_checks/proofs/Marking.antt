-- The marks of a search: what a step adds, what stays true of them, and what they say at the end.
use Rattle.std.proofs.Common.{◌≡◌, ℕ, zero, suc, ◌+◌, ◌<◌, ◌≤◌, Bool, true, false, ◌||◌, ◌&&◌, not, cond, if◌then◌else◌, List, [], ◌∷◌, ◌++◌, length, get_or, set, replicate, refl, sym, ap, ◌∙◌, inl, inr, ◌⊎◌, eqb, arith, All, subst, drop}
use Rattle.std.proofs.Common.{eqb-true, count_by}
use Rattle.std.proofs.lemmas.Bool.{cases_lt, or_cases, cases_Bool, true≢false, eqb-false, or_left, or_right}
use Rattle.std.proofs.lemmas.List.{drop_more, drop_all, length-set, length-append, length-replicate, get_or-set_same, get_or-set_other, get_or_past, get_or-replicate}
use Rattle.std.proofs.lemmas.List.Folds.{list_any-append}
use Rattle.std.proofs.lemmas.List.Sums.{sum_by-set}
use Rattle.circuit_checks.specs.Graphs.{IsGraph, reads_of, is_among, Walks, leads}
use Rattle.circuit_checks.specs.Searching.{is_seen, marks, fresh, fresh_one}
use Rattle.circuit_checks.proofs.Walking.{reads_below, read_below, led_from_walk, walk_from_led, among_first}

-- the number of nodes without a mark
abbrev pub unseen : List Bool → ℕ
unseen seen = count_by (λ (mark : Bool). not mark) seen

pub length-marks : (seen : List Bool) (places : List ℕ) → length (marks seen places) ≡ length seen
unfolding marks
length-marks seen [] = refl
length-marks seen (place ∷ places) = length-marks (set seen place true) places ∙ length-set seen place true

-- a node is marked after a step if it was marked before or is among the step's nodes
marks_at : (places : List ℕ) (seen : List Bool) (q : ℕ) → q < length seen → is_seen (marks seen places) q ≡ (is_seen seen q || is_among places q)
unfolding marks is_seen
marks_at [] seen q lt = by (get_or seen q false)
  where
    by : (b : Bool) → b ≡ (b || false)
    by true = refl
    by false = refl
marks_at (place ∷ places) seen q lt = cases (eqb q place) refl (marks_at places (set seen place true) q (omega (arith, lt, length-set seen place true)))
  where
    yes : (a b : Bool) → a ≡ (true || b) → a ≡ (get_or seen q false || true)
    yes a b h = h ∙ by (get_or seen q false)
      where
        by : (c : Bool) → true ≡ (c || true)
        by true = refl
        by false = refl

    cases : (b : Bool) → eqb q place ≡ b
        → get_or (marks (set seen place true) places) q false ≡ (get_or (set seen place true) q false || is_among places q)
        → get_or (marks (set seen place true) places) q false ≡ (get_or seen q false || (b || is_among places q))
    cases true e rec =
        let same : q ≡ place = eqb-true q place e in
        let mark : get_or (set seen place true) q false ≡ true = subst (λ (p : ℕ). get_or (set seen p true) q false ≡ true) same (get_or-set_same seen q true false lt) in
        yes (get_or (marks (set seen place true) places) q false) (is_among places q) (rec ∙ ap (λ (b : Bool). b || is_among places q) mark)
    cases false e rec = rec ∙ ap (λ (b : Bool). b || is_among places q) (get_or-set_other seen place q true false (eqb-false q place e))

-- what is seen for the first time
fresh_at : (places : List ℕ) (seen : List Bool) (q : ℕ) → is_among (fresh seen places) q ≡ (is_among places q && not (is_seen seen q))
unfolding fresh is_seen
fresh_at [] seen q = refl
fresh_at (place ∷ places) seen q =
    list_any-append (λ (one : ℕ). eqb q one) (fresh_one seen place) (fresh (set seen place true) places)
    ∙ ap (λ (b : Bool). is_among (fresh_one seen place) q || b) (fresh_at places (set seen place true) q)
    ∙ cases (eqb q place) refl
  where
    other : (a c : Bool) → (is_among (if a then [] else place ∷ []) q || c) ≡ (cond a false (eqb q place || false) || c)
    other true c = refl
    other false c = refl

    new : (a c : Bool) → get_or seen place false ≡ a → (a ≡ true → c ≡ false) → (cond a false (true || false) || c) ≡ not a
    new true c e h = h refl
    new false c e h = refl

    old : (a c : Bool) → (cond a false (false || false) || c) ≡ c
    old true c = refl
    old false c = refl

    hidden : (a b : Bool) → a ≡ true → (b && not a) ≡ false
    hidden true true e = refl
    hidden true false e = refl
    hidden false b e = absurd (true≢false (sym e))

    seen_below : get_or seen place false ≡ true → place < length seen
    seen_below e = by (cases_lt place (length seen))
      where
        by : (place < length seen) ⊎ (length seen ≤ place) → place < length seen
        by (inl lt) = lt
        by (inr le) = absurd (true≢false (sym e ∙ get_or_past seen place false le))

    cases : (b : Bool) → eqb q place ≡ b
        → (is_among (fresh_one seen place) q || (is_among places q && not (get_or (set seen place true) q false))) ≡ ((b || is_among places q) && not (get_or seen q false))
    cases true e =
        let same : q ≡ place = eqb-true q place e in
        other (get_or seen place false) (is_among places q && not (get_or (set seen place true) q false))
        ∙ ap (λ (b : Bool). cond (get_or seen place false) false (b || false) || (is_among places q && not (get_or (set seen place true) q false))) e
        ∙ new (get_or seen place false) (is_among places q && not (get_or (set seen place true) q false)) refl
        (λ was. hidden (get_or (set seen place true) q false) (is_among places q)
        (ap (λ (p : ℕ). get_or (set seen place true) p false) same ∙ get_or-set_same seen place true false (seen_below was)))
        ∙ ap (λ (p : ℕ). not (get_or seen p false)) (sym same)
    cases false e =
        other (get_or seen place false) (is_among places q && not (get_or (set seen place true) q false))
        ∙ ap (λ (b : Bool). cond (get_or seen place false) false (b || false) || (is_among places q && not (get_or (set seen place true) q false))) e
        ∙ old (get_or seen place false) (is_among places q && not (get_or (set seen place true) q false))
        ∙ ap (λ (b : Bool). is_among places q && not b) (get_or-set_other seen place q true false (eqb-false q place e))

-- each node that is marked for the first time is then pending
marks_count : (places : List ℕ) (seen : List Bool) → All (λ place. place < length seen) places → unseen (marks seen places) + length (fresh seen places) ≡ unseen seen
unfolding marks fresh is_seen
marks_count [] seen below = omega arith
marks_count (place ∷ places) seen below =
    let rest = marks_count places (set seen place true) (λ k d lt. omega (arith, below (suc k) d (omega (arith, lt)), length-set seen place true)) in
    let one = sum_by-set (λ (mark : Bool). cond {A = ℕ} (not mark) 1 0) seen place true false (below 0 0 (omega arith)) in
    let more = length-append (fresh_one seen place) (fresh (set seen place true) places) in
    omega (arith, rest, one, more, size (get_or seen place false))
  where
    size : (b : Bool) → length (if b then [] else place ∷ []) ≡ cond {A = ℕ} (not b) 1 0
    size true = refl
    size false = refl

pub seen_below : (seen : List Bool) (q : ℕ) → is_seen seen q ≡ true → q < length seen
unfolding is_seen
seen_below seen q e = by (cases_lt q (length seen))
  where
    by : (q < length seen) ⊎ (length seen ≤ q) → q < length seen
    by (inl lt) = lt
    by (inr le) = absurd (true≢false (sym e ∙ get_or_past seen q false le))

-- the invariant of the search: what is marked is reached, and its successors are marked too unless
-- it is pending
pub record Searched (graph : List (List ℕ)) (from : ℕ) (seen : List Bool) (pending : List ℕ) : Type 0 where
  pub long : length seen ≡ length graph
  pub reached : (q : ℕ) → is_seen seen q ≡ true → (steps : ℕ) × Walks graph (suc steps) from q
  pub closed : (q : ℕ) → is_seen seen q ≡ true → (is_among pending q ≡ true) ⊎ ((r : ℕ) → is_among (reads_of graph q) r ≡ true → is_seen seen r ≡ true)
  pub begun : (r : ℕ) → is_among (reads_of graph from) r ≡ true → is_seen seen r ≡ true
  pub waiting : (q : ℕ) → is_among pending q ≡ true → is_seen seen q ≡ true

and_not : (a b : Bool) → a ≡ true → b ≡ false → (a && not b) ≡ true
and_not true false e f = refl
and_not true true e f = absurd (true≢false f)
and_not false b e f = absurd (true≢false (sym e))

and_first : (a b : Bool) → (a && b) ≡ true → a ≡ true
and_first true b e = refl
and_first false b e = e

among_append : (xs ys : List ℕ) (q : ℕ) → is_among (xs ++ ys) q ≡ (is_among xs q || is_among ys q)
among_append xs ys q = list_any-append (λ (one : ℕ). eqb q one) xs ys

walk_more : (graph : List (List ℕ)) (steps from place to : ℕ) → Walks graph steps from place → is_among (reads_of graph place) to ≡ true → Walks graph (suc steps) from to
unfolding Walks
walk_more graph zero from place to e m = (to, subst (λ (p : ℕ). is_among (reads_of graph p) to ≡ true) (sym e) m, refl)
walk_more graph (suc steps) from place to (next, read, walk) m = (next, read, walk_more graph steps next place to walk m)

-- a mark stays
kept : (seen : List Bool) (places : List ℕ) (q : ℕ) → is_seen seen q ≡ true → is_seen (marks seen places) q ≡ true
kept seen places q e = marks_at places seen q (seen_below seen q e) ∙ or_left (is_seen seen q) (is_among places q) e

-- a node of the step is marked
marked : (seen : List Bool) (places : List ℕ) (q : ℕ) → q < length seen → is_among places q ≡ true → is_seen (marks seen places) q ≡ true
marked seen places q lt m = marks_at places seen q lt ∙ or_right (is_seen seen q) (is_among places q) m

-- there is no other mark
marks_only : (seen : List Bool) (places : List ℕ) (q : ℕ) → is_seen (marks seen places) q ≡ true → (is_seen seen q ≡ true) ⊎ (is_among places q ≡ true)
marks_only seen places q e =
    let lt : q < length seen = omega (arith, seen_below (marks seen places) q e, length-marks seen places) in
    or_cases (is_seen seen q) (is_among places q) (sym (marks_at places seen q lt) ∙ e)

fresh_only : (seen : List Bool) (places : List ℕ) (q : ℕ) → is_among (fresh seen places) q ≡ true → is_among places q ≡ true
fresh_only seen places q e = and_first (is_among places q) (not (is_seen seen q)) (sym (fresh_at places seen q) ∙ e)

fresh_new : (seen : List Bool) (places : List ℕ) (q : ℕ) → is_among places q ≡ true → is_seen seen q ≡ false → is_among (fresh seen places) q ≡ true
fresh_new seen places q m e = fresh_at places seen q ∙ and_not (is_among places q) (is_seen seen q) m e

none_seen : (n q : ℕ) → is_seen (replicate n false) q ≡ false
unfolding is_seen
none_seen n q = by (cases_lt q n)
  where
    by : (q < n) ⊎ (n ≤ q) → get_or (replicate n false) q false ≡ false
    by (inl lt) = get_or-replicate n q false false lt
    by (inr le) = get_or_past (replicate n false) q false (omega (arith, length-replicate n false, le))

-- the first step
pub at_start : (graph : List (List ℕ)) → IsGraph graph → (from n : ℕ) → n ≡ length graph → (before seen : List Bool) (pending : List ℕ) → before ≡ replicate n false
    → seen ≡ marks before (reads_of graph from) → pending ≡ fresh before (reads_of graph from) → Searched graph from seen pending
unfolding Walks
at_start graph is_graph from n size before seen pending b s p = rw (p, s, b) (record {
  long = length-marks (replicate n false) (reads_of graph from) ∙ length-replicate n false ∙ size;
  reached = λ q e. first q (marks_only (replicate n false) (reads_of graph from) q e);
  closed = λ q e. inl (new q (marks_only (replicate n false) (reads_of graph from) q e));
  begun = λ r m. marked (replicate n false) (reads_of graph from) r (below r m) m;
  waiting = λ q m. let read = fresh_only (replicate n false) (reads_of graph from) q m in marked (replicate n false) (reads_of graph from) q (below q read) read;
})
  where
    below : (r : ℕ) → is_among (reads_of graph from) r ≡ true → r < length (replicate n false)
    below r m = omega (arith, read_below graph is_graph from r m, length-replicate n false, size)

    first : (q : ℕ) → (is_seen (replicate n false) q ≡ true) ⊎ (is_among (reads_of graph from) q ≡ true) → (steps : ℕ) × Walks graph (suc steps) from q
    first q (inl e) = absurd (true≢false (sym e ∙ none_seen n q))
    first q (inr m) = (zero, (q, m, refl))

    new : (q : ℕ) → (is_seen (replicate n false) q ≡ true) ⊎ (is_among (reads_of graph from) q ≡ true) → is_among (fresh (replicate n false) (reads_of graph from)) q ≡ true
    new q (inl e) = absurd (true≢false (sym e ∙ none_seen n q))
    new q (inr m) = fresh_new (replicate n false) (reads_of graph from) q m (none_seen n q)

-- a further step, which takes the last pending node
pub at_step : (graph : List (List ℕ)) → IsGraph graph → (from place : ℕ) (seen after : List Bool) (pending rest next : List ℕ) → Searched graph from seen pending
    → pending ≡ rest ++ place ∷ [] → after ≡ marks seen (reads_of graph place) → next ≡ rest ++ fresh seen (reads_of graph place) → Searched graph from after next
at_step graph is_graph from place seen after pending rest next s p a n = rw (n, a) (record {
  long = length-marks seen (reads_of graph place) ∙ s.long;
  reached = λ q e. further q (marks_only seen (reads_of graph place) q e);
  closed = λ q e. closing q (cases_Bool (is_seen seen q)) e;
  begun = λ r m. kept seen (reads_of graph place) r (s.begun r m);
  waiting = λ q m. wait q (or_cases (is_among rest q) (is_among (fresh seen (reads_of graph place)) q) (sym (among_append rest (fresh seen (reads_of graph place)) q) ∙ m));
})
  where
    was_pending : (q : ℕ) → is_among rest q ≡ true → is_among pending q ≡ true
    was_pending q m = ap (λ (xs : List ℕ). is_among xs q) p ∙ among_append rest (place ∷ []) q ∙ or_left (is_among rest q) (is_among (place ∷ []) q) m

    here : is_among pending place ≡ true
    here = ap (λ (xs : List ℕ). is_among xs place) p ∙ among_append rest (place ∷ []) place ∙ or_right (is_among rest place) (is_among (place ∷ []) place) (among_first place [])

    below : (r : ℕ) → is_among (reads_of graph place) r ≡ true → r < length seen
    below r m = omega (arith, read_below graph is_graph place r m, s.long)

    further : (q : ℕ) → (is_seen seen q ≡ true) ⊎ (is_among (reads_of graph place) q ≡ true) → (steps : ℕ) × Walks graph (suc steps) from q
    further q (inl e) = s.reached q e
    further q (inr m) =
        let (steps, walk) = s.reached place (s.waiting place here) in
        (suc steps, walk_more graph (suc steps) from place q walk m)

    wait : (q : ℕ) → (is_among rest q ≡ true) ⊎ (is_among (fresh seen (reads_of graph place)) q ≡ true) → is_seen (marks seen (reads_of graph place)) q ≡ true
    wait q (inl m) = kept seen (reads_of graph place) q (s.waiting q (was_pending q m))
    wait q (inr m) =
        let read = fresh_only seen (reads_of graph place) q m in
        marked seen (reads_of graph place) q (below q read) read

    still : (q : ℕ) → (is_among rest q ≡ true) ⊎ (is_among (place ∷ []) q ≡ true)
        → (is_among (rest ++ fresh seen (reads_of graph place)) q ≡ true)
        ⊎ ((r : ℕ) → is_among (reads_of graph q) r ≡ true → is_seen (marks seen (reads_of graph place)) r ≡ true)
    still q (inl m) = inl (among_append rest (fresh seen (reads_of graph place)) q ∙ or_left (is_among rest q) (is_among (fresh seen (reads_of graph place)) q) m)
    still q (inr m) = inr (λ r read.
        let same : q ≡ place = only (eqb q place) refl m in
        let read_there : is_among (reads_of graph place) r ≡ true = ap (λ (x : ℕ). is_among (reads_of graph x) r) (sym same) ∙ read in
        marked seen (reads_of graph place) r (below r read_there) read_there)
      where
        only : (b : Bool) → eqb q place ≡ b → (b || false) ≡ true → q ≡ place
        only true e t = eqb-true q place e
        only false e t = absurd (true≢false (sym t))

    was : (q : ℕ) → (is_among pending q ≡ true) ⊎ ((r : ℕ) → is_among (reads_of graph q) r ≡ true → is_seen seen r ≡ true)
        → (is_among (rest ++ fresh seen (reads_of graph place)) q ≡ true)
        ⊎ ((r : ℕ) → is_among (reads_of graph q) r ≡ true → is_seen (marks seen (reads_of graph place)) r ≡ true)
    was q (inl m) = still q (or_cases (is_among rest q) (is_among (place ∷ []) q) (sym (among_append rest (place ∷ []) q) ∙ ap (λ (xs : List ℕ). is_among xs q) (sym p) ∙ m))
    was q (inr all) = inr (λ r read. kept seen (reads_of graph place) r (all r read))

    closing : (q : ℕ) → (is_seen seen q ≡ true) ⊎ (is_seen seen q ≡ false) → is_seen (marks seen (reads_of graph place)) q ≡ true
        → (is_among (rest ++ fresh seen (reads_of graph place)) q ≡ true)
        ⊎ ((r : ℕ) → is_among (reads_of graph q) r ≡ true → is_seen (marks seen (reads_of graph place)) r ≡ true)
    closing q (inl e) now = was q (s.closed q e)
    closing q (inr unseen_yet) now = inl (
        among_append rest (fresh seen (reads_of graph place)) q
        ∙ or_right (is_among rest q) (is_among (fresh seen (reads_of graph place)) q)
        (fresh_new seen (reads_of graph place) q (read (marks_only seen (reads_of graph place) q now)) unseen_yet))
      where
        read : (is_seen seen q ≡ true) ⊎ (is_among (reads_of graph place) q ≡ true) → is_among (reads_of graph place) q ≡ true
        read (inl e) = absurd (true≢false (sym e ∙ unseen_yet))
        read (inr m) = m

-- the nodes that a step marks have a mark
pub step_below : (graph : List (List ℕ)) → IsGraph graph → (place : ℕ) (seen : List Bool) → length seen ≡ length graph → All (λ read. read < length seen) (reads_of graph place)
step_below graph is_graph place seen long = λ k d lt. omega (arith, reads_below graph is_graph place k d lt, long)

-- each step has less left to do
pub step_falls : (graph : List (List ℕ)) → IsGraph graph → (place : ℕ) (seen after : List Bool) (pending rest next : List ℕ) → length seen ≡ length graph
    → pending ≡ rest ++ place ∷ [] → after ≡ marks seen (reads_of graph place) → next ≡ rest ++ fresh seen (reads_of graph place) → unseen after + length next < unseen seen + length pending
step_falls graph is_graph place seen after pending rest next long p a n =
    let count = marks_count (reads_of graph place) seen (step_below graph is_graph place seen long) in
    let one : unseen after ≡ unseen (marks seen (reads_of graph place)) = ap (λ (xs : List Bool). unseen xs) a in
    let two : length next ≡ length rest + length (fresh seen (reads_of graph place)) = ap (λ (xs : List ℕ). length xs) n ∙ length-append rest (fresh seen (reads_of graph place)) in
    let three : length pending ≡ length rest + 1 = ap (λ (xs : List ℕ). length xs) p ∙ length-append rest (place ∷ []) in
    omega (arith, count, one, two, three)

-- where nothing is pending, all that is reached is marked
all_marked : (graph : List (List ℕ)) (from : ℕ) (seen : List Bool) → Searched graph from seen [] → (steps place to : ℕ)
    → ((r : ℕ) → is_among (reads_of graph place) r ≡ true → is_seen seen r ≡ true) → Walks graph (suc steps) place to → is_seen seen to ≡ true
unfolding Walks
all_marked graph from seen s zero place to all (next, read, e) = ap (λ (x : ℕ). is_seen seen x) (sym e) ∙ all next read
all_marked graph from seen s (suc steps) place to all (next, read, walk) =
    all_marked graph from seen s steps next to (nothing_left (s.closed next (all next read))) walk
  where
    nothing_left : (is_among [] next ≡ true) ⊎ ((r : ℕ) → is_among (reads_of graph next) r ≡ true → is_seen seen r ≡ true) → (r : ℕ) → is_among (reads_of graph next) r ≡ true → is_seen seen r ≡ true
    nothing_left (inl m) = absurd (true≢false (sym m))
    nothing_left (inr h) = h

pub same_bools : (a b : Bool) → (a ≡ true → b ≡ true) → (b ≡ true → a ≡ true) → a ≡ b
same_bools true b f g = sym (f refl)
same_bools false true f g = g refl
same_bools false false f g = refl

-- what the marks say at the end
pub at_end : (graph : List (List ℕ)) → IsGraph graph → (from : ℕ) (seen : List Bool) (pending : List ℕ) → Searched graph from seen pending → pending ≡ []
    → (place : ℕ) → is_seen seen place ≡ leads graph (length graph) from place
at_end graph is_graph from seen pending s p place =
    let t : Searched graph from seen [] = subst (λ (xs : List ℕ). Searched graph from seen xs) p s in
    same_bools (is_seen seen place) (leads graph (length graph) from place)
    (λ e. let (steps, walk) = t.reached place e in led_from_walk graph is_graph steps from place walk)
    (λ e. let (steps, walk) = walk_from_led graph (length graph) from place e in all_marked graph from seen t steps from place t.begun walk)

-- the loop over the nodes of a step
pub marks_more : (seen : List Bool) (places : List ℕ) (i : ℕ) → i < length places → marks seen (drop i places) ≡ marks (set seen (get_or places i 0) true) (drop (i + 1) places)
unfolding marks
marks_more seen places i h = rw (drop_more places i 0 h) refl

pub marks_done : (seen : List Bool) (places : List ℕ) (i : ℕ) → length places ≤ i → marks seen (drop i places) ≡ seen
unfolding marks
marks_done seen places i h = rw (drop_all i places h) refl

pub fresh_more : (seen : List Bool) (places : List ℕ) (i : ℕ) → i < length places
    → fresh seen (drop i places) ≡ fresh_one seen (get_or places i 0) ++ fresh (set seen (get_or places i 0) true) (drop (i + 1) places)
unfolding fresh
fresh_more seen places i h = rw (drop_more places i 0 h) refl

pub fresh_done : (seen : List Bool) (places : List ℕ) (i : ℕ) → length places ≤ i → fresh seen (drop i places) ≡ []
unfolding fresh
fresh_done seen places i h = rw (drop_all i places h) refl
