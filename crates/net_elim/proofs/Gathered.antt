-- Collapse: after each table was composed into its fanouts, in topological order, tables read
-- leaves alone; then the inner ones are removed.
use Rattle.std.proofs.Common.{◌≡◌, ℕ, Bool, true, false, not, ◌||◌, Option, Some, None, option_map, List, [], ◌∷◌, ◌++◌, map, filter, fold, bytes_eq, refl, sym, ap, ◌∙◌, subst, inl, inr, ◌⊎◌}
use Rattle.std.specs.List.{AllByRecursion}
use Rattle.std.specs.Option.{option_map_or}
use Rattle.std.proofs.lemmas.Bool.{false≢true, or_left, or_right, or_cases, not_from_false, not-true}
use Rattle.std.proofs.lemmas.Option.{none-some, same_Some}
use Rattle.std.proofs.lemmas.List.{append-nil, append_assoc}
use Rattle.circuit_model.specs.Names.{has, all_different}
use Rattle.circuit_model.specs.Values.{driver}
use Rattle.circuit_model.specs.Runs.{latch_outputs, Refines}
use Rattle.circuit_model.specs.Soundness.{outputs_of, table_inputs, latch_inputs, leaf_names, given, IsSound}
use Rattle.circuit_model.specs.declared.circuit.Table.{Table}
use Rattle.circuit_model.specs.declared.circuit.Latch.{Latch}
use Rattle.circuit_model.specs.declared.circuit.Circuit.{Circuit}
use Rattle.circuit_laws.specs.Edits.{tables_kept, with_tables, with_kept, is_root}
use Rattle.circuit_laws.specs.Kept.{IsClosed}
use Rattle.circuit_laws.proofs.Names.{same_name, all_has, all_from_has, has_head, has_tail, has_none, has_not, has_either, has_front, has_back}
use Rattle.circuit_laws.proofs.Drivers.{driver_name, driver_all, driver_reads, output_driver, driver_mapped}
use Rattle.circuit_laws.specs.Changes.{IsReduced}
use Rattle.circuit_laws.proofs.Changes.{reduced_itself, reduced_through, kept_reduced, changed_refines}
use Rattle.circuit_laws.proofs.Mapped.{live_reads, outputs-mapped}
use Rattle.net_core.proofs.Removals.{no_latch, tables_differ}
use Rattle.circuit_order.specs.Order.{order_of, IsOrdered}
use Rattle.circuit_order.proofs.Orders.{ordered}
use Rattle.alg_tables.specs.Taking.{composed_into}
use Rattle.alg_tables.proofs.Taken.{taken_output, taken_reads, taken_unread}
use Rattle.net_elim.specs.Eliminating.{with_taken}
use Rattle.net_elim.specs.Collapsing.{with_put, is_outer, collapsed, IsCollapsed}
use Rattle.net_elim.proofs.TakenIn.{own_unread, taking_reduced, leaf_apart}
use Rattle.circuit_laws.proofs.Among.{own_drivers}
use Rattle.net_elim.proofs.Stepping.{filter_all, all_weaker, all_there, all_both}

-- what holds of a circuit in which some tables of another one were composed into their fanouts:
-- only tables changed; the same signals are driven; of tables a table reads only what its signal's
-- table read at first; and no table reads one that is done
record IsUnderway (first : Circuit) (done : List (List ℕ)) (circuit : Circuit) : Type 0 where
  reduced : IsReduced first circuit
  outputs : outputs_of circuit.tables ≡ outputs_of first.tables
  reads : (signal : List ℕ) (table : Table) (input : List ℕ) → driver circuit.tables signal ≡ Some table → has table.inputs input ≡ true → has (outputs_of first.tables) input ≡ true
      → (old : Table) × (driver first.tables signal ≡ Some old) × (has old.inputs input ≡ true)
  unread : (signal : List ℕ) (table : Table) (input : List ℕ) → driver circuit.tables signal ≡ Some table → has table.inputs input ≡ true → has done input ≡ false

begun : (circuit : Circuit) → IsSound circuit → IsUnderway circuit [] circuit
begun circuit sound = record {
  reduced = reduced_itself circuit sound;
  outputs = refl;
  reads = λ signal table input at read drives. (table, at, read);
  unread = λ signal table input at read. refl;
}

-- the table that drives a signal after one was composed into all its fanouts
turned : (circuit : Circuit) (inner : Table) (signal : List ℕ) (table : Table) → driver (map (composed_into inner) circuit.tables) signal ≡ Some table
    → (old : Table) × (driver circuit.tables signal ≡ Some old) × (table ≡ composed_into inner old)
turned circuit inner signal table at = cases (driver circuit.tables signal) refl (sym (driver_mapped (composed_into inner) (taken_output inner) circuit.tables signal) ∙ at)
  where
    cases : (found : Option Table) → driver circuit.tables signal ≡ found → option_map (composed_into inner) found ≡ Some table → (old : Table) × (driver circuit.tables signal ≡ Some old) × (table ≡ composed_into inner old)
    cases None here e = absurd (none-some table e)
    cases (Some old) here e = (old, here, sym (same_Some (composed_into inner old) table e))

-- a table that is next in the order reads no table any more
leaves_only : (first : Circuit) (done : List (List ℕ)) (circuit : Circuit) → IsUnderway first done circuit → (inner : Table) → driver circuit.tables inner.output ≡ Some inner
    → ((old : Table) (input : List ℕ) → driver first.tables inner.output ≡ Some old → has old.inputs input ≡ true → has (outputs_of first.tables) input ≡ true → has done input ≡ true)
    → (input : List ℕ) → has inner.inputs input ≡ true → has (outputs_of first.tables) input ≡ false
leaves_only first done circuit way inner at behind input read =
    has_not (outputs_of first.tables) input (λ drives.
    let (old, here, there) = way.reads inner.output inner input at read drives in
    false≢true (sym (way.unread inner.output inner input at read) ∙ behind old input here there drives))

underway_more : (first : Circuit) (done : List (List ℕ)) (circuit : Circuit) (inner : Table) → IsUnderway first done circuit → driver circuit.tables inner.output ≡ Some inner
    → ((old : Table) (input : List ℕ) → driver first.tables inner.output ≡ Some old → has old.inputs input ≡ true → has (outputs_of first.tables) input ≡ true → has done input ≡ true)
    → IsUnderway first (done ++ inner.output ∷ []) (with_taken circuit inner)
underway_more first done circuit inner way at behind = record {
  reduced = reduced_through first circuit (with_taken circuit inner) way.reduced (taking_reduced circuit inner sound at);
  outputs = outputs-mapped (composed_into inner) (taken_output inner) circuit.tables ∙ way.outputs;
  reads = λ signal table input here read drives.
      let (old, there, is) = turned circuit inner signal table here in
      elim (taken_reads inner old input (subst (λ (t : Table). has t.inputs input ≡ true) is read)) as (λ _. (o : Table) × (driver first.tables signal ≡ Some o) × (has o.inputs input ≡ true)) [
        | inl same ↦ way.reads signal old input there same drives
        | inr new ↦ absurd (false≢true (sym (leaves_only first done circuit way inner at behind input new.1) ∙ drives))
      ];
  unread = λ signal table input here read.
      let (old, there, is) = turned circuit inner signal table here in
      let reads : has (composed_into inner old).inputs input ≡ true = subst (λ (t : Table). has t.inputs input ≡ true) is read in
      has_none done (inner.output ∷ []) input
      (elim (taken_reads inner old input reads) as (λ _. has done input ≡ false) [
        | inl same ↦ way.unread signal old input there same
        | inr new ↦ way.unread inner.output inner input at new.1
      ])
      (has_not (inner.output ∷ []) input (λ among.
      elim (or_cases (bytes_eq input inner.output) false among) as (λ _. ⊥) [
        | inl own ↦ false≢true (sym (taken_unread inner old (driver_all (λ (t : Table). all_different t.inputs ≡ true) circuit.tables sound.table_inputs_once signal old there) (own_unread circuit inner sound at))
            ∙ subst (λ (name : List ℕ). has (composed_into inner old).inputs name ≡ true) (same_name input inner.output own) reads)
        | inr none ↦ false≢true none
      ]));
}
  where
    sound : IsSound circuit
    sound = way.reduced.change.sound

-- the table of a signal is composed into its fanouts
put_more : (first : Circuit) (done : List (List ℕ)) (circuit : Circuit) (name : List ℕ) → IsUnderway first done circuit → has (outputs_of first.tables) name ≡ true
    → ((old : Table) (input : List ℕ) → driver first.tables name ≡ Some old → has old.inputs input ≡ true → has (outputs_of first.tables) input ≡ true → has done input ≡ true)
    → IsUnderway first (done ++ name ∷ []) (with_put circuit name)
unfolding with_put
put_more first done circuit name way drives behind =
    let (inner, at) = output_driver circuit.tables name (ap (λ (names : List (List ℕ)). has names name) way.outputs ∙ drives) in
    let is : inner.output ≡ name = driver_name circuit.tables name inner at in
    subst (λ (made : Circuit). IsUnderway first (done ++ name ∷ []) made) (sym (ap (λ (o : Option Table). option_map_or (with_taken circuit) o circuit) at))
    (subst (λ (n : List ℕ). IsUnderway first (done ++ n ∷ []) (with_taken circuit inner)) is
    (underway_more first done circuit inner way (subst (λ (n : List ℕ). driver circuit.tables n ≡ Some inner) (sym is) at)
    (λ old input here. behind old input (subst (λ (n : List ℕ). driver first.tables n ≡ Some old) is here))))

pub put_reduced : (circuit : Circuit) (name : List ℕ) → IsSound circuit → IsReduced circuit (with_put circuit name)
unfolding with_put
put_reduced circuit name sound = cases (driver circuit.tables name) refl
  where
    cases : (found : Option Table) → driver circuit.tables name ≡ found → IsReduced circuit (option_map_or (with_taken circuit) found circuit)
    cases None at = reduced_itself circuit sound
    cases (Some inner) at = taking_reduced circuit inner sound (ap (driver circuit.tables) (driver_name circuit.tables name inner at) ∙ at)

-- all of them
put_all : (first : Circuit) (names : List (List ℕ)) → IsOrdered first.tables names → (done rest : List (List ℕ)) (circuit : Circuit) → names ≡ done ++ rest → IsUnderway first done circuit
    → IsUnderway first names (fold with_put circuit rest)
put_all first names order done [] circuit split way = subst (λ (ns : List (List ℕ)). IsUnderway first ns circuit) (sym (split ∙ append-nil done)) way
put_all first names order done (name ∷ rest) circuit split way =
    put_all first names order (done ++ name ∷ []) rest (with_put circuit name) (split ∙ sym (append_assoc done (name ∷ []) rest))
    (put_more first done circuit name way
    (sym (order.each name) ∙ subst (λ (ns : List (List ℕ)). has ns name ≡ true) (sym split) (has_back done (name ∷ rest) name (has_head name rest)))
    (λ old input here read drives. order.behind done rest name input old split here read drives))

all_put : (circuit : Circuit) → IsSound circuit → IsUnderway circuit (order_of circuit.tables) (fold with_put circuit (order_of circuit.tables))
all_put circuit sound =
    let order : IsOrdered circuit.tables (order_of circuit.tables) = ordered circuit.tables (tables_differ circuit sound) sound.acyclic in
    put_all circuit (order_of circuit.tables) order [] (order_of circuit.tables) circuit refl (begun circuit sound)

-- then tables read no table
reads_leaves : (first : Circuit) (circuit : Circuit) → IsSound first → IsUnderway first (order_of first.tables) circuit → (signal : List ℕ) (table : Table) (input : List ℕ) → driver circuit.tables signal ≡ Some table
    → has table.inputs input ≡ true → has (outputs_of first.tables) input ≡ false
reads_leaves first circuit sound way signal table input at read =
    let order : IsOrdered first.tables (order_of first.tables) = ordered first.tables (tables_differ first sound) sound.acyclic in
    sym (order.each input) ∙ way.unread signal table input at read

-- what stays is closed
latches_each : (P : List ℕ → Type 0) (latches : List Latch) → ((name : List ℕ) → has (map (λ (latch : Latch). latch.input) latches) name ≡ true → P name)
    → AllByRecursion (λ (latch : Latch). P latch.input) latches
latches_each P [] h = tt
latches_each P (latch ∷ latches) h = (
  h latch.input (has_head latch.input (map (λ (l : Latch). l.input) latches)),
  latches_each P latches (λ name there. h name (has_tail latch.input (map (λ (l : Latch). l.input) latches) name there)),
)

latches_own : (P : List ℕ → Type 0) (latches : List Latch) → ((name : List ℕ) → has (map (λ (latch : Latch). latch.output) latches) name ≡ true → P name)
    → AllByRecursion (λ (latch : Latch). P latch.output) latches
latches_own P [] h = tt
latches_own P (latch ∷ latches) h = (
  h latch.output (has_head latch.output (map (λ (l : Latch). l.output) latches)),
  latches_own P latches (λ name there. h name (has_tail latch.output (map (λ (l : Latch). l.output) latches) name there)),
)

latches_weaker : (P Q : Latch → Type 0) → ((latch : Latch) → P latch → Q latch) → (latches : List Latch) → AllByRecursion P latches → AllByRecursion Q latches
latches_weaker P Q h [] all = tt
latches_weaker P Q h (first ∷ latches) all = (h first all.0, latches_weaker P Q h latches all.1)

outer_free : (circuit : Circuit) (name : List ℕ) → has (outputs_of circuit.tables) name ≡ false → is_outer circuit name ≡ true
outer_free circuit name free = or_right (is_root circuit name) (not (has (outputs_of circuit.tables) name)) (not_from_false (has (outputs_of circuit.tables) name) free)

outer_output : (circuit : Circuit) (name : List ℕ) → has circuit.outputs name ≡ true → is_outer circuit name ≡ true
unfolding is_root
outer_output circuit name h =
    or_left (has circuit.outputs name || has (latch_inputs circuit) name) (not (has (outputs_of circuit.tables) name)) (or_left (has circuit.outputs name) (has (latch_inputs circuit) name) h)

outer_input : (circuit : Circuit) (name : List ℕ) → has (latch_inputs circuit) name ≡ true → is_outer circuit name ≡ true
unfolding is_root
outer_input circuit name h =
    or_left (has circuit.outputs name || has (latch_inputs circuit) name) (not (has (outputs_of circuit.tables) name)) (or_right (has circuit.outputs name) (has (latch_inputs circuit) name) h)

ReadsNone : Circuit → Table → Type 0
ReadsNone circuit table = AllByRecursion (λ input. has (outputs_of circuit.tables) input ≡ false) table.inputs

closed : (circuit : Circuit) (tables : List Table) → IsSound circuit → AllByRecursion (ReadsNone circuit) tables → IsClosed (with_tables circuit tables) (is_outer circuit)
unfolding ReadsNone
closed circuit tables sound none = record {
  outputs = all_from_has (λ name. is_outer circuit name ≡ true) circuit.outputs (outer_output circuit);
  tables = all_weaker (ReadsNone circuit) (λ (table : Table). is_outer circuit table.output ≡ true → AllByRecursion (λ name. is_outer circuit name ≡ true) table.inputs)
      (λ table free stays. all_from_has (λ name. is_outer circuit name ≡ true) table.inputs (λ name read.
      outer_free circuit name (all_has (λ input. has (outputs_of circuit.tables) input ≡ false) table.inputs free name read))) tables none;
  latches = latches_weaker (λ (latch : Latch). is_outer circuit latch.input ≡ true) (λ (latch : Latch). is_outer circuit latch.output ≡ true → is_outer circuit latch.input ≡ true)
      (λ latch h stays. h) circuit.latches (latches_each (λ name. is_outer circuit name ≡ true) circuit.latches (outer_input circuit));
  dont_care = all_from_has (λ name. (has (outputs_of circuit.dont_care) name ≡ true) ⊎ (is_outer circuit name ≡ true)) (table_inputs circuit.dont_care) (λ name read.
      elim (has_either (outputs_of circuit.dont_care) (leaf_names circuit) name
      (all_has (λ x. has (outputs_of circuit.dont_care ++ leaf_names circuit) x ≡ true) (table_inputs circuit.dont_care) sound.dont_care_known name read))
      as (λ _. (has (outputs_of circuit.dont_care) name ≡ true) ⊎ (is_outer circuit name ≡ true)) [
        | inl own ↦ inl own
        | inr leaf ↦ inr (outer_free circuit name (has_not (outputs_of circuit.tables) name (λ h. false≢true (sym (leaf_apart circuit name sound h) ∙ leaf))))
      ]);
}

latches_stay : (circuit : Circuit) → IsSound circuit → AllByRecursion (λ (latch : Latch). is_outer circuit latch.output ≡ true) circuit.latches
latches_stay circuit sound =
    latches_own (λ name. is_outer circuit name ≡ true) circuit.latches
    (λ name own. outer_free circuit name (has_not (outputs_of circuit.tables) name (λ h. false≢true (sym (no_latch circuit name sound h) ∙ own))))

-- tables after all compositions read no table, and what they read are leaves
none_read : (first circuit : Circuit) → IsSound first → IsUnderway first (order_of first.tables) circuit → AllByRecursion (ReadsNone first) circuit.tables
unfolding ReadsNone
none_read first circuit sound way =
    all_weaker (λ (table : Table). driver circuit.tables table.output ≡ Some table) (ReadsNone first)
    (λ table at. all_from_has (λ input. has (outputs_of first.tables) input ≡ false) table.inputs (λ input read. reads_leaves first circuit sound way table.output table input at read))
    circuit.tables (own_drivers circuit.tables (tables_differ circuit way.reduced.change.sound))

leaf_or_table : (circuit : Circuit) (name : List ℕ) → has (given circuit) name ≡ true → has (outputs_of circuit.tables) name ≡ false → has (leaf_names circuit) name ≡ true
unfolding given
leaf_or_table circuit name there free =
    elim (has_either circuit.inputs (latch_outputs circuit ++ outputs_of circuit.tables) name there) as (λ _. has (leaf_names circuit) name ≡ true) [
      | inl input ↦ has_front circuit.inputs (latch_outputs circuit) name input
      | inr rest ↦ elim (has_either (latch_outputs circuit) (outputs_of circuit.tables) name rest) as (λ _. has (leaf_names circuit) name ≡ true) [
        | inl latch ↦ has_back circuit.inputs (latch_outputs circuit) name latch
        | inr table ↦ absurd (false≢true (sym free ∙ table))
      ]
    ]

ReadsLeaves : Circuit → Table → Type 0
ReadsLeaves circuit table = AllByRecursion (λ input. has (leaf_names circuit) input ≡ true) table.inputs

leaves_read : (first circuit : Circuit) → IsSound first → IsUnderway first (order_of first.tables) circuit → AllByRecursion (ReadsLeaves first) circuit.tables
unfolding ReadsLeaves
leaves_read first circuit sound way =
    all_weaker (λ (table : Table). driver circuit.tables table.output ≡ Some table) (ReadsLeaves first)
    (λ table at. all_from_has (λ input. has (leaf_names first) input ≡ true) table.inputs (λ input read.
    leaf_or_table first input
    (way.reduced.signals input (live_reads circuit way.reduced.change.sound input (driver_reads circuit.tables table.output table input at read)))
    (reads_leaves first circuit sound way table.output table input at read)))
    circuit.tables (own_drivers circuit.tables (tables_differ circuit way.reduced.change.sound))

-- the whole
pub collapse_reduced : (circuit : Circuit) → IsSound circuit → IsReduced circuit (collapsed circuit)
unfolding collapsed
collapse_reduced circuit sound =
    reduced_through circuit made (with_kept made (is_outer circuit)) way.reduced
    (kept_reduced made (is_outer circuit) way.reduced.change.sound
    (subst (λ (c : Circuit). IsClosed c (is_outer circuit)) (sym way.reduced.change.rest) (closed circuit made.tables sound (none_read circuit made sound way)))
    (subst (λ (latches : List Latch). AllByRecursion (λ (latch : Latch). is_outer circuit latch.output ≡ true) latches) (sym (ap (λ (c : Circuit). c.latches) way.reduced.change.rest)) (latches_stay circuit sound)))
  where
    made : Circuit
    made = fold with_put circuit (order_of circuit.tables)

    way : IsUnderway circuit (order_of circuit.tables) made
    way = all_put circuit sound

pub collapse_refines : (circuit : Circuit) → IsSound circuit → Refines circuit (collapsed circuit)
collapse_refines circuit sound = changed_refines circuit (collapsed circuit) sound (collapse_reduced circuit sound).change

-- the finished form
stays_root : (circuit : Circuit) (name : List ℕ) → has (outputs_of circuit.tables) name ≡ true → is_outer circuit name ≡ true → is_root circuit name ≡ true
stays_root circuit name drives outer =
    elim (or_cases (is_root circuit name) (not (has (outputs_of circuit.tables) name)) outer) as (λ _. is_root circuit name ≡ true) [
      | inl root ↦ root
      | inr free ↦ absurd (false≢true (sym (not-true (has (outputs_of circuit.tables) name) free) ∙ drives))
    ]

formed : (circuit : Circuit) (tables : List Table) → AllByRecursion (λ (table : Table). is_root circuit table.output ≡ true) tables → AllByRecursion (ReadsLeaves circuit) tables → IsCollapsed (with_tables circuit tables)
unfolding is_root ReadsLeaves
formed circuit tables roots leaves = record { roots = roots; leaves = leaves }

kept_tables : (circuit : Circuit) (test : List ℕ → Bool) → (with_kept circuit test).tables ≡ tables_kept test circuit.tables
unfolding with_kept
kept_tables circuit test = refl

pub collapse_finished : (circuit : Circuit) → IsSound circuit → IsCollapsed (collapsed circuit)
unfolding collapsed tables_kept
collapse_finished circuit sound =
    subst IsCollapsed (sym (collapse_reduced circuit sound).change.rest)
    (subst (λ (tables : List Table). IsCollapsed (with_tables circuit tables)) (sym (kept_tables made (is_outer circuit)))
    (formed circuit (tables_kept (is_outer circuit) made.tables)
    (all_weaker (λ (table : Table). ((has (outputs_of circuit.tables) table.output ≡ true) × ReadsLeaves circuit table) × (is_outer circuit table.output ≡ true)) (λ table. is_root circuit table.output ≡ true)
    (λ table h. stays_root circuit table.output h.0.0 h.1) (tables_kept (is_outer circuit) made.tables) stay)
    (all_weaker (λ (table : Table). ((has (outputs_of circuit.tables) table.output ≡ true) × ReadsLeaves circuit table) × (is_outer circuit table.output ≡ true)) (ReadsLeaves circuit)
    (λ table h. h.0.1) (tables_kept (is_outer circuit) made.tables) stay)))
  where
    made : Circuit
    made = fold with_put circuit (order_of circuit.tables)

    way : IsUnderway circuit (order_of circuit.tables) made
    way = all_put circuit sound

    stay : AllByRecursion (λ (table : Table). ((has (outputs_of circuit.tables) table.output ≡ true) × ReadsLeaves circuit table) × (is_outer circuit table.output ≡ true))
        (filter (λ (table : Table). is_outer circuit table.output) made.tables)
    stay = filter_all (λ (table : Table). (has (outputs_of circuit.tables) table.output ≡ true) × ReadsLeaves circuit table) (λ (table : Table). is_outer circuit table.output) made.tables
        (all_both (λ (table : Table). has (outputs_of circuit.tables) table.output ≡ true) (ReadsLeaves circuit) made.tables
        (subst (λ (names : List (List ℕ)). AllByRecursion (λ (table : Table). has names table.output ≡ true) made.tables) way.outputs (all_there made.tables))
        (leaves_read circuit made sound way))
