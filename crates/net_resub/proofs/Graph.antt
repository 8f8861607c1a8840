-- The graph of indices: what an index reads, and that its walks are the paths from signal to
-- signal.
use Rattle.std.proofs.Common.{◌≡◌, ℕ, ◌+◌, ◌<◌, ◌≤◌, zero, suc, Bool, true, false, ◌||◌, cond, Option, Some, None, is_some, IfSome, List, [], ◌∷◌, ◌++◌, length, take, drop, append_assoc, append-nil, map, bytes_eq, get_or, option_to_list, All, refl, sym, ap, ◌∙◌, subst, inl, inr, arith, eqb, eqb-true}
use Rattle.std.specs.Option.{option_map}
use Rattle.std.proofs.lemmas.Bool.{false≢true, or_cases, eq-eqb}
use Rattle.std.proofs.lemmas.List.{length-map, take_more, drop_more, drop_all}
use Rattle.std.proofs.lemmas.List.Folds.{list_any-append}
use Rattle.std.proofs.lemmas.Option.{none-some, same_Some}
use Rattle.circuit_model.specs.Names.{has, all_different}
use Rattle.circuit_model.specs.Soundness.{outputs_of, Leads, IsAcyclic}
use Rattle.circuit_model.specs.Values.{driver}
use Rattle.circuit_model.specs.declared.circuit.Table.{Table}
use Rattle.circuit_laws.proofs.Names.{name_is, name_not, same_name, different_tail, has_either}
use Rattle.circuit_laws.proofs.Drivers.{driver_name}
use Rattle.circuit_checks.specs.Graphs.{IsGraph, reads_of, is_among, Walks}
use Rattle.circuit_checks.proofs.Walking.{led_from_walk, walk_from_led}
use Rattle.net_work.specs.Placed.{standing, table_at}
use Rattle.net_work.specs.Slots.{inputs_in, inputs_at}
use Rattle.net_resub.specs.Best.{is_led}
use Rattle.net_resub.specs.Reaching.{place_named, places_named, graph_of, ReadsAll}
use Rattle.net_work.proofs.Indexed.{there_named, drives_at, place_within}
use Rattle.net_resub.proofs.Slots.{later_apart}

-- the index of a name
stepped : (found : Option ℕ) (place : ℕ) → option_map suc found ≡ Some place → (one : ℕ) × (found ≡ Some one) × (suc one ≡ place)
stepped None place e = absurd (none-some place e)
stepped (Some one) place e = (one, refl, same_Some (suc one) place e)

-- the table at an index drives a name
abbrev pub IsNamed : List (Option Table) → List ℕ → ℕ → Type 0
IsNamed slots name place = (table : Table) × (table_at slots place ≡ Some table) × (table.output ≡ name)

later_named : (slot : Option Table) (slots : List (Option Table)) (name : List ℕ) (place : ℕ) → ((one : ℕ) → place_named slots name ≡ Some one → IsNamed slots name one)
    → option_map suc (place_named slots name) ≡ Some place → IsNamed (slot ∷ slots) name place
later_named slot slots name place rest e =
    let (one, at, same) = stepped (place_named slots name) place e in
    subst (λ (n : ℕ). IsNamed (slot ∷ slots) name n) same (rest one at)

pub named_there : (slots : List (Option Table)) (name : List ℕ) (place : ℕ) → place_named slots name ≡ Some place → IsNamed slots name place
unfolding place_named
named_there [] name place e = absurd (none-some place e)
named_there (None ∷ slots) name place e = later_named None slots name place (named_there slots name) e
named_there (Some first ∷ slots) name place e = cases (bytes_eq name first.output) refl (named_there slots name) e
  where
    cases : (b : Bool) → bytes_eq name first.output ≡ b → ((one : ℕ) → place_named slots name ≡ Some one → IsNamed slots name one)
        → cond b (Some 0) (option_map suc (place_named slots name)) ≡ Some place → IsNamed (Some first ∷ slots) name place
    cases true same rest h = subst (λ (n : ℕ). IsNamed (Some first ∷ slots) name n) (same_Some 0 place h) (first, refl, sym (same_name name first.output same))
    cases false same rest h = later_named (Some first) slots name place rest h

pub named_here : (slots : List (Option Table)) → all_different (outputs_of (standing slots)) ≡ true → (place : ℕ) (table : Table) → table_at slots place ≡ Some table → place_named slots table.output ≡ Some place
unfolding place_named standing
named_here [] different place table there = absurd (none-some table there)
named_here (None ∷ slots) different zero table there = absurd (none-some table there)
named_here (None ∷ slots) different (suc place) table there = ap (option_map suc) (named_here slots different place table there)
named_here (Some first ∷ slots) different zero table there =
    ap (λ (b : Bool). cond b (Some 0) (option_map suc (place_named slots table.output)))
    (name_is table.output first.output (ap (λ (t : Table). t.output) (sym (same_Some first table there))))
named_here (Some first ∷ slots) different (suc place) table there =
    ap (λ (b : Bool). cond b (Some 0) (option_map suc (place_named slots table.output)))
    (name_not table.output first.output (later_apart first slots place table different there))
    ∙ ap (option_map suc) (named_here slots (different_tail first.output (outputs_of (standing slots)) different) place table there)

-- a name has one index
pub one_place : (slots : List (Option Table)) → all_different (outputs_of (standing slots)) ≡ true → (one other : ℕ) (table second : Table)
    → table_at slots one ≡ Some table → table_at slots other ≡ Some second → table.output ≡ second.output → one ≡ other
one_place slots different one other table second here there same =
    same_Some one other (sym (named_here slots different one table here) ∙ ap (place_named slots) same ∙ named_here slots different other second there)

-- what is found for a name is its index
pub found_is : (slots : List (Option Table)) (name : List ℕ) (found : Option ℕ) → all_different (outputs_of (standing slots)) ≡ true → IfSome found (IsNamed slots name)
    → is_some found ≡ has (outputs_of (standing slots)) name → found ≡ place_named slots name
found_is slots name (Some place) different (table, there, same) known = sym (subst (λ (n : List ℕ). place_named slots n ≡ Some place) same (named_here slots different place table there))
found_is slots name None different there known = cases (place_named slots name) refl
  where
    cases : (o : Option ℕ) → place_named slots name ≡ o → None ≡ o
    cases None e = refl
    cases (Some place) e =
        let (table, at, same) = named_there slots name place e in
        absurd (false≢true (known ∙ subst (λ (n : List ℕ). has (outputs_of (standing slots)) n ≡ true) same (there_named slots place table at)))

-- what an index reads
reads_in : (slots others : List (Option Table)) (place : ℕ) → get_or (map (λ slot. places_named slots (inputs_in slot)) others) place [] ≡ places_named slots (inputs_at others place)
reads_in slots [] place = refl
reads_in slots (slot ∷ others) zero = refl
reads_in slots (slot ∷ others) (suc place) = reads_in slots others place

pub graph_reads : (slots : List (Option Table)) (place : ℕ) → reads_of (graph_of slots) place ≡ places_named slots (inputs_at slots place)
unfolding graph_of reads_of
graph_reads slots place = reads_in slots slots place

pub table_reads : (slots : List (Option Table)) (place : ℕ) (table : Table) → table_at slots place ≡ Some table → reads_of (graph_of slots) place ≡ places_named slots table.inputs
table_reads slots place table there = graph_reads slots place ∙ ap (λ (o : Option Table). places_named slots (inputs_in o)) there

found_among : (found : Option ℕ) (place : ℕ) → is_among (option_to_list found) place ≡ true → found ≡ Some place
found_among None place m = absurd (false≢true m)
found_among (Some one) place m = elim (or_cases (eqb place one) false m) as (λ _. Some one ≡ Some place) [ inl e ↦ ap (λ (n : ℕ). Some n) (sym (eqb-true place one e)) | inr e ↦ absurd (false≢true e) ]

among_found : (found : Option ℕ) (place : ℕ) → found ≡ Some place → is_among (option_to_list found) place ≡ true
among_found None place e = absurd (none-some place e)
among_found (Some one) place e = ap (λ (b : Bool). b || false) (eq-eqb place one (sym (same_Some one place e)))

left : (a b : Bool) → a ≡ true → (a || b) ≡ true
left true b e = refl
left false b e = absurd (false≢true e)

right : (a b : Bool) → b ≡ true → (a || b) ≡ true
right true b e = refl
right false b e = e

-- one of the names is that of an index
abbrev pub IsNameOf : List (Option Table) → List (List ℕ) → ℕ → Type 0
IsNameOf slots names place = (name : List ℕ) × (has names name ≡ true) × (place_named slots name ≡ Some place)

pub among_names : (slots : List (Option Table)) (names : List (List ℕ)) (place : ℕ) → is_among (places_named slots names) place ≡ true → IsNameOf slots names place
among_names slots [] place m = absurd (false≢true m)
among_names slots (first ∷ names) place m =
    elim (or_cases (is_among (option_to_list (place_named slots first)) place) (is_among (places_named slots names) place)
    (sym (list_any-append (λ (one : ℕ). eqb place one) (option_to_list (place_named slots first)) (places_named slots names)) ∙ m))
    as (λ _. IsNameOf slots (first ∷ names) place) [
      | inl e ↦ (first, left (bytes_eq first first) (has names first) (name_is first first refl), found_among (place_named slots first) place e)
      | inr e ↦ (let (name, among, at) = among_names slots names place e in (name, right (bytes_eq name first) (has names name) among, at))
    ]

pub names_among : (slots : List (Option Table)) (names : List (List ℕ)) (name : List ℕ) (place : ℕ) → has names name ≡ true → place_named slots name ≡ Some place → is_among (places_named slots names) place ≡ true
names_among slots [] name place m at = absurd (false≢true m)
names_among slots (first ∷ names) name place m at =
    list_any-append (λ (one : ℕ). eqb place one) (option_to_list (place_named slots first)) (places_named slots names)
    ∙ elim (or_cases (bytes_eq name first) (has names name) m) as (λ _. (is_among (option_to_list (place_named slots first)) place || is_among (places_named slots names) place) ≡ true) [
      | inl e ↦ left (is_among (option_to_list (place_named slots first)) place) (is_among (places_named slots names) place)
          (among_found (place_named slots first) place (ap (place_named slots) (sym (same_name name first e)) ∙ at))
      | inr e ↦ right (is_among (option_to_list (place_named slots first)) place) (is_among (places_named slots names) place) (names_among slots names name place e at)
    ]

-- paths from signal to signal
driver_place : (slots : List (Option Table)) (name : List ℕ) (table : Table) → driver (standing slots) name ≡ Some table → (place : ℕ) × (table_at slots place ≡ Some table)
unfolding driver standing
driver_place [] name table e = absurd (none-some table e)
driver_place (None ∷ slots) name table e = let (place, there) = driver_place slots name table e in (suc place, there)
driver_place (Some first ∷ slots) name table e = cases (bytes_eq name first.output) (driver_place slots name table) e
  where
    cases : (b : Bool) → (driver (standing slots) name ≡ Some table → (place : ℕ) × (table_at slots place ≡ Some table)) → cond b (Some first) (driver (standing slots) name) ≡ Some table
        → (place : ℕ) × (table_at (Some first ∷ slots) place ≡ Some table)
    cases true rest h = (zero, h)
    cases false rest h = let (place, there) = rest h in (suc place, there)

led_named : (slots : List (Option Table)) (steps : ℕ) (name : List ℕ) (place : ℕ) (table : Table) → table_at slots place ≡ Some table → Leads (standing slots) steps name table.output
    → (at : ℕ) × IsNamed slots name at
unfolding Leads
led_named slots zero name place table there e = (place, (table, there, sym e))
led_named slots (suc steps) name place table there (first, drives, next, reads, rest) =
    let (at, here) = driver_place slots name first drives in
    (at, (first, here, driver_name (standing slots) name first drives))

pub walk_leads : (slots : List (Option Table)) → all_different (outputs_of (standing slots)) ≡ true → (steps from to : ℕ) (table last : Table) → table_at slots from ≡ Some table → table_at slots to ≡ Some last
    → Walks (graph_of slots) steps from to → Leads (standing slots) steps table.output last.output
unfolding Walks Leads
walk_leads slots different zero from to table last here there e = ap (λ (t : Table). t.output) (same_Some table last (sym here ∙ ap (table_at slots) e ∙ there))
walk_leads slots different (suc steps) from to table last here there (next, read, walk) =
    let (name, among, at) = among_names slots table.inputs next (ap (λ (ps : List ℕ). is_among ps next) (sym (table_reads slots from table here)) ∙ read) in
    let (second, middle, same) = named_there slots name next at in (
      table,
      drives_at slots different from table here,
      name,
      among,
      subst (λ (n : List ℕ). Leads (standing slots) steps n last.output) same (walk_leads slots different steps next to second last middle there walk),
    )

pub leads_walk : (slots : List (Option Table)) → all_different (outputs_of (standing slots)) ≡ true → (steps from to : ℕ) (table last : Table) → table_at slots from ≡ Some table → table_at slots to ≡ Some last
    → Leads (standing slots) steps table.output last.output → Walks (graph_of slots) steps from to
unfolding Walks Leads
leads_walk slots different zero from to table last here there e = one_place slots different from to table last here there e
leads_walk slots different (suc steps) from to table last here there (first, drives, name, among, rest) =
    let same : table ≡ first = same_Some table first (sym (drives_at slots different from table here) ∙ drives) in
    let (next, (second, middle, is)) = led_named slots steps name to last there rest in
    let at : place_named slots name ≡ Some next = subst (λ (n : List ℕ). place_named slots n ≡ Some next) is (named_here slots different next second middle) in (
      next,
      ap (λ (ps : List ℕ). is_among ps next) (table_reads slots from table here) ∙ names_among slots table.inputs name next (ap (λ (t : Table). has t.inputs name) same ∙ among) at,
      leads_walk slots different steps next to second last middle there (subst (λ (n : List ℕ). Leads (standing slots) steps n last.output) (sym is) rest),
    )

-- it is a graph
named_below : (slots : List (Option Table)) (names : List (List ℕ)) (place : ℕ) → is_among (places_named slots names) place ≡ true → place < length slots
named_below slots names place m =
    let (name, among, at) = among_names slots names place m in
    let (table, there, same) = named_there slots name place at in
    place_within slots place table there

at_among : (places : List ℕ) (k d : ℕ) → k < length places → is_among places (get_or places k d) ≡ true
at_among [] k d below = absurd (omega (arith, below))
at_among (first ∷ places) zero d below = left (eqb first first) (is_among places first) (eq-eqb first first refl)
at_among (first ∷ places) (suc k) d below = right (eqb (get_or places k d) first) (is_among places (get_or places k d)) (at_among places k d (omega (arith, below)))

graph_at : (slots others : List (Option Table)) (k : ℕ) (d : List ℕ) → k < length others → (names : List (List ℕ)) × (get_or (map (λ slot. places_named slots (inputs_in slot)) others) k d ≡ places_named slots names)
graph_at slots [] k d below = absurd (omega (arith, below))
graph_at slots (slot ∷ others) zero d below = (inputs_in slot, refl)
graph_at slots (slot ∷ others) (suc k) d below = graph_at slots others k d (omega (arith, below))

pub graph_long : (slots : List (Option Table)) → length (graph_of slots) ≡ length slots
unfolding graph_of
graph_long slots = length-map slots (λ slot. places_named slots (inputs_in slot))

pub graph_is : (slots : List (Option Table)) → IsGraph (graph_of slots)
unfolding graph_of
graph_is slots = λ k d below.
    let (names, is) = graph_at slots slots k d (omega (arith, below, graph_long slots)) in
    subst (λ (ps : List ℕ). All (λ place. place < length (graph_of slots)) ps) (sym is)
    (λ i e within. let low = named_below slots names (get_or (places_named slots names) i e) (at_among (places_named slots names) i e within) in omega (arith, low, graph_long slots))

-- indices lead to each other exactly if their signals do
pub led_leads : (slots : List (Option Table)) → all_different (outputs_of (standing slots)) ≡ true → (from to : ℕ) (table last : Table) → table_at slots from ≡ Some table → table_at slots to ≡ Some last
    → is_led slots from to ≡ true → (steps : ℕ) × Leads (standing slots) (suc steps) table.output last.output
led_leads slots different from to table last here there led =
    let (steps, walk) = walk_from_led (graph_of slots) (length (graph_of slots)) from to led in
    (steps, walk_leads slots different (suc steps) from to table last here there walk)

pub leads_led : (slots : List (Option Table)) → all_different (outputs_of (standing slots)) ≡ true → (from to : ℕ) (table last : Table) → table_at slots from ≡ Some table → table_at slots to ≡ Some last
    → (steps : ℕ) → Leads (standing slots) (suc steps) table.output last.output → is_led slots from to ≡ true
leads_led slots different from to table last here there steps led =
    led_from_walk (graph_of slots) (graph_is slots) steps from to (leads_walk slots different (suc steps) from to table last here there led)

-- a table does not lead to one that reads all that it reads
pub all_unled : (slots : List (Option Table)) → all_different (outputs_of (standing slots)) ≡ true → IsAcyclic (standing slots) → (place by : ℕ) → ReadsAll slots place by → is_led slots by place ≡ false
unfolding IsAcyclic Leads
all_unled slots different acyclic place by reads = cases (is_led slots by place) refl
  where
    cases : (b : Bool) → is_led slots by place ≡ b → b ≡ false
    cases false e = refl
    cases true e =
        let (steps, (first, drives, next, among, rest)) = led_leads slots different by place reads.other reads.table reads.there reads.here e in
        let same : reads.other ≡ first = same_Some reads.other first (sym (drives_at slots different by reads.other reads.there) ∙ drives) in
        absurd (acyclic reads.table.output steps
        (reads.table, drives_at slots different place reads.table reads.here, next, reads.all next (ap (λ (t : Table). has t.inputs next) same ∙ among), rest))

-- one more name of those that are all among others
pub among_next : (names others : List (List ℕ)) (i : ℕ) (name : List ℕ) → i < length names → name ≡ get_or names i name → ((one : List ℕ) → has (take i names) one ≡ true → has others one ≡ true)
    → has others name ≡ true → (one : List ℕ) → has (take (i + 1) names) one ≡ true → has others one ≡ true
among_next names others i name below is each this one m =
    elim (has_either (take i names) (name ∷ []) one
    (ap (λ (ns : List (List ℕ)). has ns one) (ap (λ (n : List ℕ). take i names ++ n ∷ []) is ∙ sym (take_more names i name below)) ∙ m)) as (λ _. has others one ≡ true) [
      | inl k ↦ each one k
      | inr k ↦ elim (or_cases (bytes_eq one name) false k) as (λ _. has others one ≡ true) [ inl e ↦ ap (has others) (same_name one name e) ∙ this | inr e ↦ absurd (false≢true e) ]
    ]

-- the indices of names, one after the other
pub places_next : (slots : List (Option Table)) (names : List (List ℕ)) (i : ℕ) (name : List ℕ) (places new whole : List ℕ) (found : Option ℕ) → i < length names → name ≡ get_or names i name
    → found ≡ place_named slots name → new ≡ places ++ option_to_list found → places ++ places_named slots (drop i names) ≡ whole → new ++ places_named slots (drop (i + 1) names) ≡ whole
places_next slots names i name places new whole found below is at put all =
    ap (λ (ps : List ℕ). ps ++ places_named slots (drop (i + 1) names)) (put ∙ ap (λ (o : Option ℕ). places ++ option_to_list o) at)
    ∙ (append_assoc places (option_to_list (place_named slots name)) (places_named slots (drop (i + 1) names))
    ∙ (ap (λ (ns : List (List ℕ)). places ++ places_named slots ns) (ap (λ (n : List ℕ). n ∷ drop (i + 1) names) is ∙ sym (drop_more names i name below)) ∙ all))

pub places_done : (slots : List (Option Table)) (names : List (List ℕ)) (i : ℕ) (places whole : List ℕ) → length names ≤ i → places ++ places_named slots (drop i names) ≡ whole → places ≡ whole
places_done slots names i places whole long all =
    sym (append-nil places) ∙ (ap (λ (ns : List (List ℕ)). places ++ places_named slots ns) (sym (drop_all i names long)) ∙ all)

pub none_reads : (slots : List (Option Table)) (place : ℕ) → table_at slots place ≡ None → reads_of (graph_of slots) place ≡ []
none_reads slots place there = graph_reads slots place ∙ ap (λ (o : Option Table). places_named slots (inputs_in o)) there
