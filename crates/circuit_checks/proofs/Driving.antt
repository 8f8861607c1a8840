-- Tables as a graph over their indices: a node is cyclic exactly if its output leads to itself.
use Rattle.std.proofs.Common.{◌≡◌, ℕ, zero, suc, ◌+◌, ◌-◌, ◌<◌, ◌≤◌, Bool, true, false, ◌||◌, cond, Option, Some, None, option_map, List, [], ◌∷◌, length, get_or, map, refl, sym, ap, ◌∙◌, arith, inl, inr, ◌⊎◌, eqb, eq-eqb, eqb-true, All, slice_get, subst}
use Rattle.std.specs.Prelude.{bytes_eq, find}
use Rattle.std.specs.List.{list_any, filter_map, cons_option, range_with_len, AllByRecursion}
use Rattle.std.proofs.lemmas.Bool.{true≢false, cases_Bool}
use Rattle.std.proofs.lemmas.List.{length-map}
use Rattle.std.proofs.lemmas.List.Elements.{All-from_recursion}
use Rattle.circuit_checks.specs.Graphs.{IsGraph, reads_of, is_among, Walks, leads, is_cyclic, first_cyclic}
use Rattle.circuit_checks.proofs.Walking.{cyclic_from_walk, among_first, among_later}
use Rattle.circuit_checks.proofs.Marking.{same_bools}
use Rattle.circuit_model.specs.Names.{has, all_different}
use Rattle.circuit_model.specs.Values.{driver}
use Rattle.circuit_model.specs.Soundness.{Leads, outputs_of}
use Rattle.circuit_model.specs.declared.circuit.Table.{Table}
use Rattle.circuit_checks.specs.Cycles.{inputs_at, leads_within, is_on_cycle, first_on_cycle}
use Rattle.circuit_checks.specs.Sets.{place_in, graph_of, output_at}
use Rattle.circuit_checks.proofs.Naming.{same_name, name_itself}
use Rattle.circuit_checks.proofs.Counting.{first_different, rest_different}

some_none : {A : Type 0} (x : A) → Some x ≡ None → ⊥
some_none x e = cc

some_same : {A : Type 0} (x y : A) → Some x ≡ Some y → x ≡ y
some_same x y e = cc

-- the index of a name, one further
next_place : (o : Option ℕ) (i : ℕ) → option_map suc o ≡ Some (suc i) → o ≡ Some i
next_place None i e = absurd (some_none (suc i) (sym e))
next_place (Some k) i e = let same : suc k ≡ suc i = some_same (suc k) (suc i) e in let k_is : k ≡ i = omega (arith, same) in ap Some k_is

not_zero : (o : Option ℕ) → option_map suc o ≡ Some zero → ⊥
not_zero None e = some_none zero (sym e)
not_zero (Some k) e = let same : suc k ≡ zero = some_same (suc k) zero e in absurd (omega (arith, same))

no_place : (o : Option ℕ) → option_map suc o ≡ None → o ≡ None
no_place None e = refl
no_place (Some k) e = absurd (some_none (suc k) e)

-- if a name has an index, the table there drives it, whatever the tables' inputs become
reads_driver : (h : List (List ℕ) → List ℕ) (tables : List Table) (signal : List ℕ) (i : ℕ) → place_in (outputs_of tables) signal ≡ Some i
    → get_or (map (λ (table : Table). h table.inputs) tables) i [] ≡ h (inputs_at (driver tables signal))
unfolding place_in driver
reads_driver h [] signal i e = absurd (some_none i (sym e))
reads_driver h (table ∷ tables) signal zero e = cases (bytes_eq signal table.output) e
  where
    cases : (b : Bool) → cond b (Some 0) (option_map suc (place_in (outputs_of tables) signal)) ≡ Some zero
        → h table.inputs ≡ h (inputs_at (cond b (Some table) (driver tables signal)))
    cases true e = refl
    cases false e = absurd (not_zero (place_in (outputs_of tables) signal) e)
reads_driver h (table ∷ tables) signal (suc i) e = cases (bytes_eq signal table.output) e (reads_driver h tables signal i)
  where
    cases : (b : Bool) → cond b (Some 0) (option_map suc (place_in (outputs_of tables) signal)) ≡ Some (suc i)
        → (place_in (outputs_of tables) signal ≡ Some i → get_or (map (λ (table : Table). h table.inputs) tables) i [] ≡ h (inputs_at (driver tables signal)))
        → get_or (map (λ (table : Table). h table.inputs) tables) i [] ≡ h (inputs_at (cond b (Some table) (driver tables signal)))
    cases true e rec = let same : 0 ≡ suc i = some_same 0 (suc i) e in absurd (omega (arith, same))
    cases false e rec = rec (next_place (place_in (outputs_of tables) signal) i e)

-- a name without an index has no driver, and one with a driver has an index
undriven : (tables : List Table) (signal : List ℕ) → place_in (outputs_of tables) signal ≡ None → driver tables signal ≡ None
unfolding place_in driver
undriven [] signal e = refl
undriven (table ∷ tables) signal e = cases (bytes_eq signal table.output) e (undriven tables signal)
  where
    cases : (b : Bool) → cond b (Some 0) (option_map suc (place_in (outputs_of tables) signal)) ≡ None
        → (place_in (outputs_of tables) signal ≡ None → driver tables signal ≡ None) → cond b (Some table) (driver tables signal) ≡ None
    cases true e rec = absurd (some_none 0 e)
    cases false e rec = rec (no_place (place_in (outputs_of tables) signal) e)

pub place_of_driven : (tables : List Table) (signal : List ℕ) (table : Table) → driver tables signal ≡ Some table → (i : ℕ) × (place_in (outputs_of tables) signal ≡ Some i)
place_of_driven tables signal table d = cases (place_in (outputs_of tables) signal) refl
  where
    cases : (o : Option ℕ) → place_in (outputs_of tables) signal ≡ o → (i : ℕ) × (place_in (outputs_of tables) signal ≡ Some i)
    cases None e = absurd (some_none table (sym d ∙ undriven tables signal e))
    cases (Some i) e = (i, e)

-- the name at the index of a name
at_place : (names : List (List ℕ)) (name : List ℕ) (i : ℕ) → place_in names name ≡ Some i → get_or names i [] ≡ name
unfolding place_in
at_place [] name i e = absurd (some_none i (sym e))
at_place (first ∷ names) name zero e = cases (bytes_eq name first) refl e
  where
    cases : (b : Bool) → bytes_eq name first ≡ b → cond b (Some 0) (option_map suc (place_in names name)) ≡ Some zero → first ≡ name
    cases true t e = sym (same_name name first t)
    cases false t e = absurd (not_zero (place_in names name) e)
at_place (first ∷ names) name (suc i) e = cases (bytes_eq name first) e (at_place names name i)
  where
    cases : (b : Bool) → cond b (Some 0) (option_map suc (place_in names name)) ≡ Some (suc i) → (place_in names name ≡ Some i → get_or names i [] ≡ name) → get_or names i [] ≡ name
    cases true e rec = let same : 0 ≡ suc i = some_same 0 (suc i) e in absurd (omega (arith, same))
    cases false e rec = rec (next_place (place_in names name) i e)

place_below : (names : List (List ℕ)) (name : List ℕ) (i : ℕ) → place_in names name ≡ Some i → i < length names
unfolding place_in
place_below [] name i e = absurd (some_none i (sym e))
place_below (first ∷ names) name zero e = omega arith
place_below (first ∷ names) name (suc i) e = cases (bytes_eq name first) e (place_below names name i)
  where
    cases : (b : Bool) → cond b (Some 0) (option_map suc (place_in names name)) ≡ Some (suc i) → (place_in names name ≡ Some i → i < length names) → suc i < length (first ∷ names)
    cases true e rec = let same : 0 ≡ suc i = some_same 0 (suc i) e in absurd (omega (arith, same))
    cases false e rec = omega (arith, rec (next_place (place_in names name) i e))

-- two names with indices are equal if their indices are
same_places : (names : List (List ℕ)) (name other : List ℕ) (i j : ℕ) → place_in names name ≡ Some i → place_in names other ≡ Some j → eqb i j ≡ bytes_eq name other
same_places names name other i j p q =
    same_bools (eqb i j) (bytes_eq name other)
    (λ e. subst (λ (n : List ℕ). bytes_eq name n ≡ true)
    (sym (at_place names name i p) ∙ ap (λ (k : ℕ). get_or names k []) (eqb-true i j e) ∙ at_place names other j q) (name_itself name))
    (λ e. eq-eqb i j (some_same i j (sym p ∙ ap (place_in names) (same_name name other e) ∙ q)))

pub length_graph : (tables : List Table) → length (graph_of tables) ≡ length tables
unfolding graph_of
length_graph tables = length-map tables (λ (table : Table). filter_map (place_in (outputs_of tables)) table.inputs)

-- the edges at the index of a name: the indices of the inputs of its driver
graph_reads : (tables : List Table) (signal : List ℕ) (i : ℕ) → place_in (outputs_of tables) signal ≡ Some i
    → reads_of (graph_of tables) i ≡ filter_map (place_in (outputs_of tables)) (inputs_at (driver tables signal))
unfolding reads_of graph_of
graph_reads tables signal i e = reads_driver (filter_map (place_in (outputs_of tables))) tables signal i e

-- what is read is a node
places_below : (names : List (List ℕ)) (inputs : List (List ℕ)) → AllByRecursion (λ (i : ℕ). i < length names) (filter_map (place_in names) inputs)
places_below names [] = tt
places_below names (input ∷ inputs) = cases (place_in names input) refl (places_below names inputs)
  where
    cases : (o : Option ℕ) → place_in names input ≡ o → AllByRecursion (λ (i : ℕ). i < length names) (filter_map (place_in names) inputs)
        → AllByRecursion (λ (i : ℕ). i < length names) (cons_option o (filter_map (place_in names) inputs))
    cases None e rest = rest
    cases (Some i) e rest = (place_below names input i e, rest)

all_below : (names : List (List ℕ)) (tables : List Table)
    → AllByRecursion (λ (reads : List ℕ). All (λ (i : ℕ). i < length names) reads) (map (λ (table : Table). filter_map (place_in names) table.inputs) tables)
all_below names [] = tt
all_below names (table ∷ tables) =
    (All-from_recursion (λ (i : ℕ). i < length names) (filter_map (place_in names) table.inputs) (places_below names table.inputs), all_below names tables)

pub graph_is : (tables : List Table) → IsGraph (graph_of tables)
unfolding graph_of
graph_is tables =
    let size : length (outputs_of tables) ≡ length (map (λ (table : Table). filter_map (place_in (outputs_of tables)) table.inputs) tables)
    = length-map tables (λ (table : Table). table.output) ∙ sym (length-map tables (λ (table : Table). filter_map (place_in (outputs_of tables)) table.inputs)) in
    All-from_recursion
    (λ (reads : List ℕ). All (λ (i : ℕ). i < length (map (λ (table : Table). filter_map (place_in (outputs_of tables)) table.inputs) tables)) reads)
    (map (λ (table : Table). filter_map (place_in (outputs_of tables)) table.inputs) tables)
    (subst (λ (n : ℕ). AllByRecursion (λ (reads : List ℕ). All (λ (i : ℕ). i < n) reads) (map (λ (table : Table). filter_map (place_in (outputs_of tables)) table.inputs) tables))
    size (all_below (outputs_of tables) tables))

-- the test on names is the test on their indices
nothing_led : (tables : List Table) (most : ℕ) (from to : List ℕ) → driver tables from ≡ None → leads_within tables most from to ≡ false
unfolding leads_within
nothing_led tables zero from to e = refl
nothing_led tables (suc most) from to e = rw e refl

pub led_alike : (tables : List Table) (most : ℕ) (from to : List ℕ) (i j : ℕ) → place_in (outputs_of tables) from ≡ Some i → place_in (outputs_of tables) to ≡ Some j
    → leads (graph_of tables) most i j ≡ leads_within tables most from to
unfolding leads leads_within
led_alike tables zero from to i j p q = refl
led_alike tables (suc most) from to i j p q =
    ap (list_any (λ (next : ℕ). eqb j next || leads (graph_of tables) most next j)) (graph_reads tables from i p)
    ∙ each (inputs_at (driver tables from)) (λ next k r. led_alike tables most next to k j r q)
  where
    neither : (a b : Bool) → a ≡ false → b ≡ false → false ≡ (a || b)
    neither true b e f = sym e
    neither false b e f = sym f

    outside : (next : List ℕ) → place_in (outputs_of tables) next ≡ None → bytes_eq to next ≡ false
    outside next e = by (cases_Bool (bytes_eq to next))
      where
        by : (bytes_eq to next ≡ true) ⊎ (bytes_eq to next ≡ false) → bytes_eq to next ≡ false
        by (inl t) = absurd (some_none j (sym q ∙ ap (place_in (outputs_of tables)) (same_name to next t) ∙ e))
        by (inr t) = t

    here : (next : List ℕ) (inputs : List (List ℕ)) (o : Option ℕ) → place_in (outputs_of tables) next ≡ o
        → ((k : ℕ) → place_in (outputs_of tables) next ≡ Some k → leads (graph_of tables) most k j ≡ leads_within tables most next to)
        → list_any (λ (one : ℕ). eqb j one || leads (graph_of tables) most one j) (cons_option o (filter_map (place_in (outputs_of tables)) inputs))
        ≡ ((bytes_eq to next || leads_within tables most next to) || list_any (λ (one : ℕ). eqb j one || leads (graph_of tables) most one j) (filter_map (place_in (outputs_of tables)) inputs))
    here next inputs None e rec =
        ap (λ (b : Bool). b || list_any (λ (one : ℕ). eqb j one || leads (graph_of tables) most one j) (filter_map (place_in (outputs_of tables)) inputs))
        (neither (bytes_eq to next) (leads_within tables most next to) (outside next e) (nothing_led tables most next to (undriven tables next e)))
    here next inputs (Some k) e rec =
        ap (λ (b : Bool). (b || leads (graph_of tables) most k j) || list_any (λ (one : ℕ). eqb j one || leads (graph_of tables) most one j) (filter_map (place_in (outputs_of tables)) inputs))
        (same_places (outputs_of tables) to next j k q e)
        ∙ ap (λ (b : Bool). (bytes_eq to next || b) || list_any (λ (one : ℕ). eqb j one || leads (graph_of tables) most one j) (filter_map (place_in (outputs_of tables)) inputs))
        (rec k e)

    each : (inputs : List (List ℕ))
        → ((next : List ℕ) (k : ℕ) → place_in (outputs_of tables) next ≡ Some k → leads (graph_of tables) most k j ≡ leads_within tables most next to)
        → list_any (λ (one : ℕ). eqb j one || leads (graph_of tables) most one j) (filter_map (place_in (outputs_of tables)) inputs)
        ≡ list_any (λ (next : List ℕ). bytes_eq to next || leads_within tables most next to) inputs
    each [] rec = refl
    each (next ∷ inputs) rec =
        here next inputs (place_in (outputs_of tables) next) refl (rec next)
        ∙ ap (λ (b : Bool). (bytes_eq to next || leads_within tables most next to) || b) (each inputs rec)

pub cyclic_alike : (tables : List Table) (signal : List ℕ) (i : ℕ) → place_in (outputs_of tables) signal ≡ Some i → is_cyclic (graph_of tables) i ≡ is_on_cycle tables signal
unfolding is_cyclic is_on_cycle
cyclic_alike tables signal i p =
    led_alike tables (length (graph_of tables)) signal signal i i p p ∙ ap (λ (n : ℕ). leads_within tables n signal signal) (length_graph tables)

-- steps from name to name are steps from node to node
among_places : (names inputs : List (List ℕ)) (input : List ℕ) (k : ℕ) → place_in names input ≡ Some k → has inputs input ≡ true → is_among (filter_map (place_in names) inputs) k ≡ true
among_places names [] input k p h = absurd (true≢false (sym h))
among_places names (first ∷ inputs) input k p h = cases (bytes_eq input first) refl (among_places names inputs input k p)
  where
    behind : (o : Option ℕ) → is_among (filter_map (place_in names) inputs) k ≡ true → is_among (cons_option o (filter_map (place_in names) inputs)) k ≡ true
    behind None m = m
    behind (Some i) m = among_later k i (filter_map (place_in names) inputs) m

    cases : (b : Bool) → bytes_eq input first ≡ b → (has inputs input ≡ true → is_among (filter_map (place_in names) inputs) k ≡ true)
        → is_among (cons_option (place_in names first) (filter_map (place_in names) inputs)) k ≡ true
    cases true e rec =
        ap (λ (o : Option ℕ). is_among (cons_option o (filter_map (place_in names) inputs)) k) (ap (place_in names) (sym (same_name input first e)) ∙ p)
        ∙ among_first k (filter_map (place_in names) inputs)
    cases false e rec = behind (place_in names first) (rec (sym (ap (λ (b : Bool). b || has inputs input) e) ∙ h))

place_of_leading : (tables : List Table) (steps : ℕ) (from to : List ℕ) (j : ℕ) → Leads tables steps from to → place_in (outputs_of tables) to ≡ Some j
    → (i : ℕ) × (place_in (outputs_of tables) from ≡ Some i)
unfolding Leads
place_of_leading tables zero from to j e q = (j, ap (place_in (outputs_of tables)) e ∙ q)
place_of_leading tables (suc steps) from to j (table, drives, next, reads, rest) q = place_of_driven tables from table drives

walk_of_leads : (tables : List Table) (steps : ℕ) (from to : List ℕ) (i j : ℕ) → Leads tables steps from to → place_in (outputs_of tables) from ≡ Some i → place_in (outputs_of tables) to ≡ Some j
    → Walks (graph_of tables) steps i j
unfolding Leads Walks
walk_of_leads tables zero from to i j e p q = some_same i j (sym p ∙ ap (place_in (outputs_of tables)) e ∙ q)
walk_of_leads tables (suc steps) from to i j (table, drives, next, reads, rest) p q =
    let (k, r) = place_of_leading tables steps next to j rest q in (
      k,
      ap (λ (places : List ℕ). is_among places k) (graph_reads tables from i p ∙ ap (λ (o : Option Table). filter_map (place_in (outputs_of tables)) (inputs_at o)) drives)
          ∙ among_places (outputs_of tables) table.inputs next k r reads,
      walk_of_leads tables steps next to k j rest r q,
    )

-- what leads to itself is on a cycle
pub on_cycle_by_places : (tables : List Table) (signal : List ℕ) (steps : ℕ) → Leads tables (suc steps) signal signal → is_on_cycle tables signal ≡ true
unfolding Leads
on_cycle_by_places tables signal steps (table, drives, next, reads, rest) =
    let (i, p) = place_of_driven tables signal table drives in
    sym (cyclic_alike tables signal i p)
    ∙ cyclic_from_walk (graph_of tables) (graph_is tables) i steps (walk_of_leads tables (suc steps) signal signal i i (table, drives, next, reads, rest) p p)

-- and what is on a cycle leads to itself
found_input : (test : List ℕ → Bool) (names : List (List ℕ)) → list_any test names ≡ true → (name : List ℕ) × (has names name ≡ true) × (test name ≡ true)
found_input test [] h = absurd (true≢false (sym h))
found_input test (first ∷ names) h = cases (test first) refl (found_input test names)
  where
    behind : (name : List ℕ) (b : Bool) → has names name ≡ true → (b || has names name) ≡ true
    behind name true e = refl
    behind name false e = e

    cases : (b : Bool) → test first ≡ b → (list_any test names ≡ true → (name : List ℕ) × (has names name ≡ true) × (test name ≡ true))
        → (name : List ℕ) × (has (first ∷ names) name ≡ true) × (test name ≡ true)
    cases true e rec = (first, ap (λ (b : Bool). b || has names first) (name_itself first), e)
    cases false e rec =
        let (name, m, t) = rec (sym (ap (λ (b : Bool). b || list_any test names) e) ∙ h) in
        (name, behind name (bytes_eq name first) m, t)

leads_from_led : (tables : List Table) (most : ℕ) (from to : List ℕ) → leads_within tables most from to ≡ true → (steps : ℕ) × Leads tables (suc steps) from to
unfolding leads_within Leads
leads_from_led tables zero from to h = absurd (true≢false (sym h))
leads_from_led tables (suc most) from to h = driven (driver tables from) refl h (λ next led. leads_from_led tables most next to led)
  where
    step : (table : Table) → driver tables from ≡ Some table → (next : List ℕ) → has table.inputs next ≡ true → (b : Bool) → bytes_eq to next ≡ b → (b || leads_within tables most next to) ≡ true
        → (leads_within tables most next to ≡ true → (steps : ℕ) × Leads tables (suc steps) next to) → (steps : ℕ) × Leads tables (suc steps) from to
    step table d next m true e t rec = (zero, (table, d, next, m, sym (same_name to next e)))
    step table d next m false e t rec = let (steps, led) = rec t in (suc steps, (table, d, next, m, led))

    driven : (o : Option Table) → driver tables from ≡ o → list_any (λ (next : List ℕ). bytes_eq to next || leads_within tables most next to) (inputs_at o) ≡ true
        → ((next : List ℕ) → leads_within tables most next to ≡ true → (steps : ℕ) × Leads tables (suc steps) next to) → (steps : ℕ) × Leads tables (suc steps) from to
    driven None d h rec = absurd (true≢false (sym h))
    driven (Some table) d h rec =
        let (next, m, t) = found_input (λ (next : List ℕ). bytes_eq to next || leads_within tables most next to) table.inputs h in
        step table d next m (bytes_eq to next) refl t (rec next)

pub led_by_steps : (tables : List Table) (signal : List ℕ) → is_on_cycle tables signal ≡ true → (steps : ℕ) × Leads tables (suc steps) signal signal
unfolding is_on_cycle
led_by_steps tables signal h = leads_from_led tables (length tables) signal signal h

-- if outputs are all different, each output has its table's index
own_place : (tables : List Table) → all_different (outputs_of tables) ≡ true → (i : ℕ) (table : Table) → slice_get tables i ≡ Some table → place_in (outputs_of tables) table.output ≡ Some i
unfolding place_in
own_place [] d i table e = absurd (some_none table (sym e))
own_place (first ∷ tables) d zero table e =
    let same : first ≡ table = some_same first table e in
    subst (λ (t : Table). cond (bytes_eq t.output first.output) (Some 0) (option_map suc (place_in (outputs_of tables) t.output)) ≡ Some 0) same (rw (name_itself first.output) refl)
own_place (first ∷ tables) d (suc i) table e =
    ap (λ (b : Bool). cond b (Some 0) (option_map suc (place_in (outputs_of tables) table.output))) (differs (bytes_eq table.output first.output) refl)
    ∙ ap (option_map suc) (own_place tables (rest_different first.output (outputs_of tables) d) i table e)
  where
    listed : (tables : List Table) (i : ℕ) → slice_get tables i ≡ Some table → has (outputs_of tables) table.output ≡ true
    listed [] i e = absurd (some_none table (sym e))
    listed (one ∷ tables) zero e =
        let same : one ≡ table = some_same one table e in
        ap (λ (b : Bool). b || has (outputs_of tables) table.output) (ap (λ (t : Table). bytes_eq table.output t.output) same ∙ name_itself table.output)
    listed (one ∷ tables) (suc i) e = by (bytes_eq table.output one.output) (listed tables i e)
      where
        by : (b : Bool) → has (outputs_of tables) table.output ≡ true → (b || has (outputs_of tables) table.output) ≡ true
        by true m = refl
        by false m = m

    differs : (b : Bool) → bytes_eq table.output first.output ≡ b → b ≡ false
    differs true t =
        absurd (true≢false (sym (listed tables i e) ∙ ap (has (outputs_of tables)) (same_name table.output first.output t) ∙ first_different first.output (outputs_of tables) d))
    differs false t = refl

-- the first node that passes is the index of the first table that does
unfoldable output_from : List Table → ℕ → Option ℕ → Option (List ℕ)
output_from tables start None = None
output_from tables start (Some place) = option_map (λ (table : Table). table.output) (slice_get tables (place - start))

pub found_from : (f : ℕ → Bool) (start n i : ℕ) → find f (range_with_len start n) ≡ Some i → start ≤ i
found_from f start zero i e = absurd (some_none i (sym e))
found_from f start (suc n) i e = cases (f start) e (found_from f (start + 1) n i)
  where
    cases : (b : Bool) → cond b (Some start) (find f (range_with_len (start + 1) n)) ≡ Some i → (find f (range_with_len (start + 1) n) ≡ Some i → start + 1 ≤ i) → start ≤ i
    cases true e rec = let same : start ≡ i = some_same start i e in omega (arith, same)
    cases false e rec = omega (arith, rec e)

one_further : (table : Table) (tables : List Table) (start : ℕ) (o : Option ℕ) → ((i : ℕ) → o ≡ Some i → start + 1 ≤ i) → output_from (table ∷ tables) start o ≡ output_from tables (start + 1) o
unfolding output_from
one_further table tables start None h = refl
one_further table tables start (Some i) h =
    let above : start + 1 ≤ i = h i refl in
    let next : i - start ≡ suc (i - (start + 1)) = omega (arith, above) in
    rw next refl

found_alike : (f : ℕ → Bool) (test : Table → Bool) (tables : List Table) (start : ℕ) → ((i : ℕ) (table : Table) → slice_get tables i ≡ Some table → f (start + i) ≡ test table)
    → output_from tables start (find f (range_with_len start (length tables))) ≡ option_map (λ (table : Table). table.output) (find test tables)
unfolding output_from
found_alike f test [] start agree = refl
found_alike f test (table ∷ tables) start agree =
    let here : f start ≡ test table = ap f zero_more ∙ agree zero table refl in
    cases (f start) (test table) here refl
    (found_alike f test tables (start + 1) (λ i one e. ap f (more i) ∙ agree (suc i) one e))
  where
    zero_more : start ≡ start + zero
    zero_more = omega arith

    more : (i : ℕ) → start + 1 + i ≡ start + suc i
    more i = omega arith

    nothing : start - start ≡ 0
    nothing = omega arith

    cases : (a b : Bool) → a ≡ b → f start ≡ a
        → output_from tables (start + 1) (find f (range_with_len (start + 1) (length tables))) ≡ option_map (λ (table : Table). table.output) (find test tables)
        → output_from (table ∷ tables) start (cond a (Some start) (find f (range_with_len (start + 1) (length tables)))) ≡ option_map (λ (table : Table). table.output) (cond b (Some table) (find test tables))
    cases true true e t rec = rw nothing refl
    cases false false e t rec =
        one_further table tables start (find f (range_with_len (start + 1) (length tables))) (λ i found. found_from f (start + 1) (length tables) i found) ∙ rec
    cases true false e t rec = absurd (true≢false e)
    cases false true e t rec = absurd (true≢false (sym e))

-- so the first cyclic node gives the first table on a cycle
pub found_on_cycle : (tables : List Table) → all_different (outputs_of tables) ≡ true → (found : Option ℕ) → found ≡ first_cyclic (graph_of tables) → output_at tables found ≡ first_on_cycle tables
unfolding first_cyclic first_on_cycle output_from output_at
found_on_cycle tables d found e =
    ap (output_at tables) (e ∙ ap (λ (n : ℕ). find (is_cyclic (graph_of tables)) (range_with_len 0 n)) (length_graph tables))
    ∙ whole (find (is_cyclic (graph_of tables)) (range_with_len 0 (length tables)))
    ∙ found_alike (is_cyclic (graph_of tables)) (λ (table : Table). is_on_cycle tables table.output) tables 0
    (λ i table at. ap (is_cyclic (graph_of tables)) (plain i) ∙ cyclic_alike tables table.output i (own_place tables d i table at))
  where
    plain : (i : ℕ) → 0 + i ≡ i
    plain i = omega arith

    whole : (o : Option ℕ) → output_at tables o ≡ output_from tables 0 o
    whole None = refl
    whole (Some i) = let same : i ≡ i - 0 = omega arith in ap (λ (n : ℕ). option_map (λ (table : Table). table.output) (slice_get tables n)) same
