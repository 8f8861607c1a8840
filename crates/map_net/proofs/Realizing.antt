-- Tables that stand for those of a circuit, group by group: why they are a sound circuit that shows
-- the same.
use Rattle.std.proofs.Common.{◌≡◌, ◌⊎◌, ℕ, zero, suc, ◌+◌, ◌<◌, ◌≤◌, Bool, true, false}
use Rattle.std.proofs.Common.{Option, Some, None, List, [], ◌∷◌, ◌++◌, flat_map, bytes_eq}
use Rattle.std.proofs.Common.{slice_get, unwrap_or, refl, sym, ◌∙◌, ap, subst, inl, inr, arith}
use Rattle.std.specs.List.{AllByRecursion}
use Rattle.std.proofs.lemmas.Bool.{false≢true, or_cases}
use Rattle.std.proofs.lemmas.Option.{none-some, same_Some}
use Rattle.circuit_model.specs.Names.{has, all_different}
use Rattle.circuit_model.specs.Values.{driver, driven_value}
use Rattle.circuit_model.specs.Runs.{value_in, leaves_of, latch_outputs, Refines}
use Rattle.circuit_model.specs.Soundness.{outputs_of, latch_inputs, control_of, leaf_names}
use Rattle.circuit_model.specs.Soundness.{table_inputs, given, taken, Leads, IsAcyclic, IsShaped}
use Rattle.circuit_model.specs.Soundness.{IsSound}
use Rattle.circuit_model.specs.declared.circuit.Table.{Table}
use Rattle.circuit_model.specs.declared.circuit.Circuit.{Circuit}
use Rattle.circuit_laws.specs.Edits.{with_tables}
use Rattle.circuit_laws.specs.Ranks.{HasRank}
use Rattle.circuit_laws.specs.Valuations.{Obeys}
use Rattle.circuit_laws.proofs.Names.{all_has, all_from_has, has_front, has_back}
use Rattle.circuit_laws.proofs.Names.{has_either, has_none, has_neither, has_not, different_apart}
use Rattle.circuit_laws.proofs.Names.{AreApart, same_name}
use Rattle.circuit_laws.proofs.Drivers.{driver_name, driver_all, driver_output, driver_none}
use Rattle.circuit_laws.proofs.Ranks.{leads_joined}
use Rattle.circuit_laws.proofs.Kept.{all_weaker}
use Rattle.circuit_laws.proofs.Sound.{all_append, HasWords, words_parts, parts_words, IsWord}
use Rattle.circuit_laws.proofs.Sound.{sound_settled}
use Rattle.circuit_laws.proofs.Tables.{value_due, value_obeys}
use Rattle.map_net.proofs.Netted.{agreeing_refines}

-- a table of a group before a place drives an input
abbrev pub IsEarlier : List Table → ℕ → List ℕ → Type 0
IsEarlier group k input = (j : ℕ) × (other : Table) × (j < k) × (slice_get group j ≡ Some other)
    × (other.output ≡ input)

-- tables of a circuit that read only leaves and what tables of the group before them drive
pub record IsGroup (tables : List Table) (leaf : List ℕ → Type 0) (group : List Table) : Type 0
  where
    pub among : (k : ℕ) (table : Table) → slice_get group k ≡ Some table
        → driver tables table.output ≡ Some table
    pub reads : (k : ℕ) (table : Table) (input : List ℕ) → slice_get group k ≡ Some table
        → has table.inputs input ≡ true → leaf input ⊎ IsEarlier group k input

-- a group stands for the table of a signal: it drives the signal, reads what is of lower rank, and
-- gives the signal its value where it has all those values
pub record Stands (circuit : Circuit) (tables : List Table) (r : HasRank circuit.tables)
    (live : List ℕ → Type 0) (signal : List ℕ) : Type 0 where
  pub group : List Table
  pub wired : IsGroup tables (λ x. live x × (r.rank x < r.rank signal)) group
  pub place : ℕ
  pub table : Table
  pub at : slice_get group place ≡ Some table
  pub own : table.output ≡ signal
  pub value : (old new : List ℕ → Bool) → Obeys circuit.tables old → Obeys tables new
      → ((x : List ℕ) → live x → r.rank x < r.rank signal → old x ≡ new x)
      → old signal ≡ new signal

-- a table is one of a group
pub record IsGrouped (tables : List Table) (live : List ℕ → Type 0) (table : Table) : Type 0 where
  pub group : List Table
  pub wired : IsGroup tables live group
  pub place : ℕ
  pub at : slice_get group place ≡ Some table

-- tables stand for those of a circuit: all live signals are leaves or have groups, and each table
-- is one of a group
pub record IsRealized (circuit : Circuit) (tables : List Table) (r : HasRank circuit.tables)
    (live : List ℕ → Type 0) : Type 0 where
  pub different : all_different (given (with_tables circuit tables)) ≡ true
  pub words : AllByRecursion IsWord (outputs_of tables)
  pub control : AllByRecursion (λ name. has (outputs_of tables) name ≡ false)
      (control_of circuit.timing)
  pub shaped : AllByRecursion IsShaped tables
  pub once : AllByRecursion (λ (table : Table). all_different table.inputs ≡ true) tables
  pub latches : (name : List ℕ) → has (latch_inputs circuit) name ≡ true → live name
  pub outputs : (name : List ℕ) → has circuit.outputs name ≡ true → live name
  pub stands : (signal : List ℕ) → live signal
      → (has (leaf_names circuit) signal ≡ true) ⊎ Stands circuit tables r live signal
  pub grouped : AllByRecursion (IsGrouped tables live) tables

-- no way from a signal has more steps than a bound
pub record Ends (tables : List Table) (signal : List ℕ) : Type 0 where
  pub bound : ℕ
  pub ends : (steps : ℕ) (to : List ℕ) → Leads tables steps signal to → steps ≤ bound

ends_here : (tables : List Table) (signal : List ℕ) → driver tables signal ≡ None
    → Ends tables signal
unfolding Leads
ends_here tables signal none = record { bound = 0; ends = within }
  where
    within : (steps : ℕ) (to : List ℕ) → Leads tables steps signal to → steps ≤ 0
    within zero to way = omega arith
    within (suc steps) to (table, at, next, read, rest) = absurd (none-some table (sym none ∙ at))

pub record EndTogether (tables : List Table) (names : List (List ℕ)) : Type 0 where
  pub bound : ℕ
  pub ends : (name : List ℕ) → has names name ≡ true → (steps : ℕ) (to : List ℕ)
      → Leads tables steps name to → steps ≤ bound

end_together : (tables : List Table) (names : List (List ℕ)) → AllByRecursion (Ends tables) names
    → EndTogether tables names
end_together tables [] all = record {
  bound = 0;
  ends = λ name h steps to way. absurd (false≢true h);
}
end_together tables (first ∷ names) all = joined all.0 (end_together tables names all.1)
  where
    joined : Ends tables first → EndTogether tables names → EndTogether tables (first ∷ names)
    joined one rest = record { bound = one.bound + rest.bound; ends = within }
      where
        at_first : (name : List ℕ) → name ≡ first → (steps : ℕ) (to : List ℕ)
            → Leads tables steps name to → steps ≤ one.bound
        at_first name e steps to way =
            one.ends steps to (subst (λ (s : List ℕ). Leads tables steps s to) e way)

        within : (name : List ℕ) → has (first ∷ names) name ≡ true → (steps : ℕ) (to : List ℕ)
            → Leads tables steps name to → steps ≤ one.bound + rest.bound
        within name h steps to way =
            elim (or_cases (bytes_eq name first) (has names name) h) as (λ _. steps ≤ one.bound +
            rest.bound) [
              | inl e ↦ (let low = at_first name (same_name name first e) steps to way in
                  omega (arith, low))
              | inr m ↦ (let low = rest.ends name m steps to way in omega (arith, low))
            ]

ends_on : (tables : List Table) (signal : List ℕ) (table : Table)
    → driver tables signal ≡ Some table → AllByRecursion (Ends tables) table.inputs
    → Ends tables signal
unfolding Leads
ends_on tables signal table at all = over (end_together tables table.inputs all)
  where
    over : EndTogether tables table.inputs → Ends tables signal
    over rest = record { bound = suc rest.bound; ends = within }
      where
        within : (steps : ℕ) (to : List ℕ) → Leads tables steps signal to → steps ≤ suc rest.bound
        within zero to way = omega arith
        within (suc steps) to (other, found, next, read, way) =
            let same : other ≡ table = same_Some other table (sym found ∙ at) in
            let low = rest.ends next (ap (λ (t : Table). has t.inputs next) (sym same) ∙ read) steps
            to way in
            omega (arith, low)

around : (tables : List Table) (signal : List ℕ) (steps : ℕ)
    → Leads tables (suc steps) signal signal → (n : ℕ)
    → (m : ℕ) × (n ≤ m) × Leads tables m signal signal
unfolding Leads
around tables signal steps way zero = (0, omega arith, refl)
around tables signal steps way (suc n) = more (around tables signal steps way n)
  where
    more : (m : ℕ) × (n ≤ m) × Leads tables m signal signal
        → (m : ℕ) × (suc n ≤ m) × Leads tables m signal signal
    more (m, low, rest) = (
      suc steps + m,
      omega (arith, low),
      leads_joined tables (suc steps) m signal signal signal way rest,
    )

pub ending_acyclic : (tables : List Table) → ((signal : List ℕ) → Ends tables signal)
    → IsAcyclic tables
unfolding IsAcyclic
ending_acyclic tables all signal steps way = off (all signal)
  where
    off : Ends tables signal → ⊥
    off one =
        let (m, low, round) = around tables signal steps way (suc one.bound) in
        let high = one.ends m signal round in
        absurd (omega (arith, low, high))

-- in a group all ways end where they end from its leaves
group_ends : (tables : List Table) (leaf : List ℕ → Type 0) (group : List Table)
    → IsGroup tables leaf group → ((x : List ℕ) → leaf x → Ends tables x) → (n k : ℕ)
    (table : Table) → k < n → slice_get group k ≡ Some table → Ends tables table.output
group_ends tables leaf group wired ends zero k table low at = absurd (omega (arith, low))
group_ends tables leaf group wired ends (suc n) k table low at =
    ends_on tables table.output table (wired.among k table at)
    (all_from_has (Ends tables) table.inputs (λ x h. by x (wired.reads k table x at h)
    (λ j other below there. group_ends tables leaf group wired ends n j other below there)))
  where
    by : (x : List ℕ) → leaf x ⊎ IsEarlier group k x
        → ((j : ℕ) (other : Table) → j < n → slice_get group j ≡ Some other
        → Ends tables other.output) → Ends tables x
    by x (inl leafy) rest = ends x leafy
    by x (inr (j, other, less, there, own)) rest =
        subst (Ends tables) own (rest j other (omega (arith, low, less)) there)

-- what a circuit drives, by its leaves and its tables
pub given_leaf : (circuit : Circuit) (tables : List Table) (name : List ℕ)
    → has (leaf_names circuit) name ≡ true → has (given (with_tables circuit tables)) name ≡ true
unfolding given
given_leaf circuit tables name h =
    elim (has_either circuit.inputs (latch_outputs circuit) name h) as (λ _. has (circuit.inputs ++
    (latch_outputs circuit ++ outputs_of tables)) name ≡ true) [
      | inl e ↦ has_front circuit.inputs (latch_outputs circuit ++ outputs_of tables) name e
      | inr e ↦ has_back circuit.inputs (latch_outputs circuit ++ outputs_of tables) name
          (has_front (latch_outputs circuit) (outputs_of tables) name e)
    ]

given_output : (circuit : Circuit) (tables : List Table) (name : List ℕ)
    → has (outputs_of tables) name ≡ true → has (given (with_tables circuit tables)) name ≡ true
unfolding given
given_output circuit tables name h = has_back circuit.inputs (latch_outputs circuit ++ outputs_of
    tables) name (has_back (latch_outputs circuit) (outputs_of tables) name h)

pub tables_different : (circuit : Circuit) (tables : List Table)
    → all_different (given (with_tables circuit tables)) ≡ true
    → all_different (outputs_of tables) ≡ true
unfolding given
tables_different circuit tables h = (different_apart (latch_outputs circuit) (outputs_of tables)
    (different_apart circuit.inputs (latch_outputs circuit ++ outputs_of tables) h).back).back

-- no table drives a leaf
pub leaf_apart : (circuit : Circuit) (tables : List Table)
    → all_different (given (with_tables circuit tables)) ≡ true → (name : List ℕ)
    → has (leaf_names circuit) name ≡ true → driver tables name ≡ None
unfolding given
leaf_apart circuit tables h name leafy =
    driver_none tables name (has_not (outputs_of tables) name (λ out. by out
    (has_either circuit.inputs (latch_outputs circuit) name leafy)))
  where
    first : AreApart circuit.inputs (latch_outputs circuit ++ outputs_of tables)
    first = different_apart circuit.inputs (latch_outputs circuit ++ outputs_of tables) h

    second : AreApart (latch_outputs circuit) (outputs_of tables)
    second = different_apart (latch_outputs circuit) (outputs_of tables) first.back

    by : has (outputs_of tables) name ≡ true
        → (has circuit.inputs name ≡ true) ⊎ (has (latch_outputs circuit) name ≡ true) → ⊥
    by out (inl e) =
        first.between name e (has_back (latch_outputs circuit) (outputs_of tables) name out)
    by out (inr e) = second.between name e out

-- what holds of each table's names holds of all
pub flat_all : (P : List ℕ → Type 0) (list : Table → List (List ℕ)) (tables : List Table)
    → AllByRecursion (λ (table : Table). AllByRecursion P (list table)) tables
    → AllByRecursion P (flat_map list tables)
flat_all P list [] all = tt
flat_all P list (table ∷ tables) all = all_append P (list table) (flat_map list tables) all.0
    (flat_all P list tables all.1)

live_given : (circuit : Circuit) (tables : List Table) (r : HasRank circuit.tables)
    (live : List ℕ → Type 0) → IsRealized circuit tables r live → (name : List ℕ) → live name
    → has (given (with_tables circuit tables)) name ≡ true
live_given circuit tables r live is name lives = by (is.stands name lives)
  where
    by : (has (leaf_names circuit) name ≡ true) ⊎ Stands circuit tables r live name
        → has (given (with_tables circuit tables)) name ≡ true
    by (inl leafy) = given_leaf circuit tables name leafy
    by (inr one) =
        given_output circuit tables name (subst (λ (s : List ℕ). has (outputs_of tables) s ≡ true)
        one.own (driver_output tables one.table.output one.table (one.wired.among one.place
        one.table one.at)))

-- what a table of a group reads is driven
group_given : (circuit : Circuit) (tables : List Table) (r : HasRank circuit.tables)
    (live : List ℕ → Type 0) → IsRealized circuit tables r live → (table : Table)
    → IsGrouped tables live table
    → AllByRecursion (λ name. has (given (with_tables circuit tables)) name ≡ true) table.inputs
group_given circuit tables r live is table one = all_from_has (λ name. has (given (with_tables
    circuit tables)) name ≡ true) table.inputs (λ x h. by x (one.wired.reads one.place table x
    one.at h))
  where
    by : (x : List ℕ) → live x ⊎ IsEarlier one.group one.place x
        → has (given (with_tables circuit tables)) x ≡ true
    by x (inl lives) = live_given circuit tables r live is x lives
    by x (inr (j, other, less, there, own)) =
        given_output circuit tables x (subst (λ (s : List ℕ). has (outputs_of tables) s ≡ true)
        own (driver_output tables other.output other (one.wired.among j other there)))

-- all ways end
realized_ends : (circuit : Circuit) (tables : List Table) (r : HasRank circuit.tables)
    (live : List ℕ → Type 0) → IsRealized circuit tables r live → (signal : List ℕ)
    → Ends tables signal
realized_ends circuit tables r live is signal = cases (driver tables signal) refl
  where
    below : (n : ℕ) (signal : List ℕ) → r.rank signal < n → live signal → Ends tables signal
    below zero signal low lives = absurd (omega (arith, low))
    below (suc n) signal low lives = by (is.stands signal lives) (λ x lower there. below n x lower
        there)
      where
        by : (has (leaf_names circuit) signal ≡ true) ⊎ Stands circuit tables r live signal
            → ((x : List ℕ) → r.rank x < n → live x → Ends tables x) → Ends tables signal
        by (inl leafy) rest =
            ends_here tables signal (leaf_apart circuit tables is.different signal leafy)
        by (inr one) rest =
            subst (Ends tables) one.own
            (group_ends tables (λ x. live x × (r.rank x < r.rank signal)) one.group one.wired
            (λ x under. rest x (let less = under.1 in omega (arith, low, less)) under.0)
            (suc one.place) one.place one.table (omega arith) one.at)

    grouped : (table : Table) → driver tables signal ≡ Some table → IsGrouped tables live table
        → Ends tables signal
    grouped table at one =
        subst (Ends tables) (driver_name tables signal table at)
        (group_ends tables live one.group one.wired (λ x lives. below (suc (r.rank x)) x
        (omega arith) lives) (suc one.place) one.place table (omega arith) one.at)

    cases : (found : Option Table) → driver tables signal ≡ found → Ends tables signal
    cases None at = ends_here tables signal at
    cases (Some table) at = grouped table at (driver_all (IsGrouped tables live) tables is.grouped
        signal table at)

-- the names of the tables are words
realized_words : (circuit : Circuit) (tables : List Table) (r : HasRank circuit.tables)
    (live : List ℕ → Type 0) → IsSound circuit → IsRealized circuit tables r live
    → HasWords (with_tables circuit tables)
unfolding given
realized_words circuit tables r live sound is = made (words_parts circuit sound.words)
  where
    made : HasWords circuit → HasWords (with_tables circuit tables)
    made w = record {
      name = w.name;
      inputs = w.inputs;
      outputs = w.outputs;
      clocks = w.clocks;
      control = w.control;
      latch_outputs = w.latch_outputs;
      latch_inputs = w.latch_inputs;
      tables = flat_all IsWord (λ (table : Table). table.output ∷ table.inputs) tables (each tables
          is.grouped is.words);
      dont_care = w.dont_care;
    }
      where
        all : AllByRecursion IsWord (given (with_tables circuit tables))
        all = all_append IsWord circuit.inputs (latch_outputs circuit ++ outputs_of tables) w.inputs
            (all_append IsWord (latch_outputs circuit) (outputs_of tables) w.latch_outputs is.words)

        each : (some : List Table) → AllByRecursion (IsGrouped tables live) some
            → AllByRecursion IsWord (outputs_of some)
            → AllByRecursion (λ (table : Table). AllByRecursion IsWord (table.output ∷
            table.inputs)) some
        each [] grouped words = tt
        each (table ∷ some) grouped words = (
          (
            words.0,
            all_weaker (λ name. has (given (with_tables circuit tables)) name ≡ true) IsWord
                (λ name there. all_has IsWord (given (with_tables circuit tables)) all name there)
                table.inputs (group_given circuit tables r live is table grouped.0),
          ),
          each some grouped.1 words.1,
        )

-- tables that stand for those of a sound circuit are those of a sound circuit
pub realized_sound : (circuit : Circuit) (tables : List Table) (r : HasRank circuit.tables)
    (live : List ℕ → Type 0) → IsSound circuit → IsRealized circuit tables r live
    → IsSound (with_tables circuit tables)
unfolding taken
realized_sound circuit tables r live sound is = record {
  words = parts_words (with_tables circuit tables) (realized_words circuit tables r live sound is);
  inputs_once = sound.inputs_once;
  outputs_once = sound.outputs_once;
  one_driver = is.different;
  driven = all_append Driven (table_inputs tables) (latch_inputs circuit ++ circuit.outputs)
      (flat_all Driven (λ (table : Table). table.inputs) tables (all_weaker (IsGrouped tables live)
      (λ (table : Table). AllByRecursion Driven table.inputs) (group_given circuit tables r live is)
      tables is.grouped))
      (all_append Driven (latch_inputs circuit) circuit.outputs
      (all_from_has Driven (latch_inputs circuit) (λ name h. live_given circuit tables r live is
      name (is.latches name h)))
      (all_from_has Driven circuit.outputs (λ name h. live_given circuit tables r live is
      name (is.outputs name h))));
  inits = sound.inits;
  untimed_without_latches = sound.untimed_without_latches;
  shaped = is.shaped;
  table_inputs_once = is.once;
  acyclic = ending_acyclic tables (realized_ends circuit tables r live is);
  control_undriven = undriven (control_of circuit.timing) sound.control_undriven is.control;
  control_not_nil = sound.control_not_nil;
  dont_care_once = sound.dont_care_once;
  dont_care_known = sound.dont_care_known;
  dont_care_acyclic = sound.dont_care_acyclic;
  dont_care_shaped = sound.dont_care_shaped;
}
  where
    Driven : List ℕ → Type 0
    Driven name = has (given (with_tables circuit tables)) name ≡ true

    undriven : (names : List (List ℕ))
        → AllByRecursion (λ name. has (latch_outputs circuit ++ outputs_of circuit.tables) name
        ≡ false) names
        → AllByRecursion (λ name. has (outputs_of tables) name ≡ false) names
        → AllByRecursion (λ name. has (latch_outputs circuit ++ outputs_of tables) name ≡ false)
        names
    undriven [] old new = tt
    undriven (name ∷ names) old new = (
      has_none (latch_outputs circuit) (outputs_of tables) name
          (has_neither (latch_outputs circuit) (outputs_of circuit.tables) name old.0).0 new.0,
      undriven names old.1 new.1,
    )

-- and that circuit may stand for the first
pub realized_refines : (circuit : Circuit) (tables : List Table) (r : HasRank circuit.tables)
    (live : List ℕ → Type 0) → IsSound circuit → IsRealized circuit tables r live
    → Refines circuit (with_tables circuit tables)
unfolding leaves_of
realized_refines circuit tables r live sound is =
    agreeing_refines circuit tables r live (record {
      outputs = is.outputs;
      latches = is.latches;
      step = λ state row signal lives same. by state row signal (is.stands signal lives) same;
    })
  where
    net : IsSound (with_tables circuit tables)
    net = realized_sound circuit tables r live sound is

    leaf_value : (state row : List Bool) (signal : List ℕ)
        → has (leaf_names circuit) signal ≡ true
        → value_in circuit state row signal ≡ value_in (with_tables circuit tables) state row signal
    leaf_value state row signal leafy =
        value_due circuit sound.acyclic state row signal
        ∙ ap (λ (found : Option Table). unwrap_or (leaves_of circuit state row signal)
        (driven_value found (value_in circuit state row)))
        (leaf_apart circuit circuit.tables sound.one_driver signal leafy)
        ∙ sym (ap (λ (found : Option Table). unwrap_or (leaves_of circuit state row signal)
        (driven_value found (value_in (with_tables circuit tables) state row)))
        (leaf_apart circuit tables is.different signal leafy))
        ∙ sym (value_due (with_tables circuit tables) net.acyclic state row signal)

    by : (state row : List Bool) (signal : List ℕ)
        → (has (leaf_names circuit) signal ≡ true) ⊎ Stands circuit tables r live signal
        → ((other : List ℕ) → live other → r.rank other < r.rank signal
        → value_in circuit state row other ≡ value_in (with_tables circuit tables) state row other)
        → value_in circuit state row signal ≡ value_in (with_tables circuit tables) state row signal
    by state row signal (inl leafy) same = leaf_value state row signal leafy
    by state row signal (inr one) same = one.value (value_in circuit state row) (value_in
        (with_tables circuit tables) state row)
        (value_obeys circuit (sound_settled circuit sound) state row)
        (value_obeys (with_tables circuit tables) (sound_settled (with_tables circuit tables) net)
        state row) same
