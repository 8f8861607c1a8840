-- A circuit stays sound under an edit.
use Rattle.std.proofs.Common.{◌≡◌, ℕ, ◌≤◌, Bool, true, false, cond, Option, None, List, [], ◌∷◌, ◌++◌, map, flat_map, filter, codes, bytes_eq, append_assoc, refl, sym, ap, ◌∙◌, subst, inl, inr, ◌⊎◌}
use Rattle.std.specs.List.{AllByRecursion}
use Rattle.std.proofs.lemmas.Bool.{false≢true, and_parts, and_from, and_right, or_cases, or_parts, or_from}
use Rattle.sis_base.specs.Written.{is_word}
use Rattle.circuit_model.specs.Names.{has, all_different}
use Rattle.circuit_model.specs.Runs.{latch_outputs}
use Rattle.circuit_model.specs.Soundness.{outputs_of, latch_inputs, control_of, names_of, all_names, leaf_names, table_inputs, given, taken, IsAcyclic, IsShaped, IsSound}
use Rattle.circuit_model.specs.declared.circuit.Table.{Table}
use Rattle.circuit_model.specs.declared.circuit.Latch.{Latch}
use Rattle.circuit_model.specs.declared.circuit.Timing.{Timing}
use Rattle.circuit_model.specs.declared.circuit.Circuit.{Circuit}
use Rattle.circuit_laws.specs.Edits.{replaced, with_replaced, with_added, with_kept, tables_kept, latches_kept, timing_with, with_removed, is_other, is_read, is_root}
use Rattle.circuit_laws.specs.Fitting.{IsFitting}
use Rattle.circuit_laws.specs.Kept.{IsClosed}
use Rattle.circuit_laws.specs.Same.{IsSettled}
use Rattle.circuit_laws.proofs.Names.{different_apart, apart_different, different_none, different_cons, different_head, different_tail, same_name, name_turned, has_head, has_tail, has_front, has_back, has_either, has_none, has_neither, has_not, all_has}
use Rattle.circuit_laws.proofs.Drivers.{outputs-replaced}
use Rattle.circuit_laws.proofs.Paths.{kept_acyclic, added_acyclic}
use Rattle.circuit_laws.proofs.Tables.{taken_not}
use Rattle.circuit_laws.proofs.Kept.{all_weaker, has_kept, has_tables_kept, has_latches_kept, unread_closed}

-- what holds of each element of two lists
pub all_append : {X : Type 0} (P : X → Type 0) (xs ys : List X) → AllByRecursion P xs → AllByRecursion P ys → AllByRecursion P (xs ++ ys)
all_append P [] ys p q = q
all_append P (x ∷ xs) ys p q = (p.0, all_append P xs ys p.1 q)

pub all_parts : {X : Type 0} (P : X → Type 0) (xs ys : List X) → AllByRecursion P (xs ++ ys) → AllByRecursion P xs × AllByRecursion P ys
all_parts P [] ys p = (tt, p)
all_parts P (x ∷ xs) ys p = let rest = all_parts P xs ys p.1 in ((p.0, rest.0), rest.1)

pub all_filter : {X : Type 0} (P : X → Type 0) (test : X → Bool) (xs : List X) → AllByRecursion P xs → AllByRecursion P (filter test xs)
all_filter P test [] p = tt
all_filter P test (x ∷ xs) p = cases (test x) (all_filter P test xs p.1)
  where
    cases : (k : Bool) → AllByRecursion P (filter test xs) → AllByRecursion P (cond k (x ∷ filter test xs) (filter test xs))
    cases true rest = (p.0, rest)
    cases false rest = rest

-- names that are words, part by part
abbrev pub IsWord : List ℕ → Type 0
IsWord name = is_word name ≡ true

pub record HasWords (circuit : Circuit) : Type 0 where
  pub name : IsWord circuit.name
  pub inputs : AllByRecursion IsWord circuit.inputs
  pub outputs : AllByRecursion IsWord circuit.outputs
  pub clocks : AllByRecursion IsWord circuit.clocks
  pub control : AllByRecursion IsWord (control_of circuit.timing)
  pub latch_outputs : AllByRecursion IsWord (latch_outputs circuit)
  pub latch_inputs : AllByRecursion IsWord (latch_inputs circuit)
  pub tables : AllByRecursion IsWord (names_of circuit.tables)
  pub dont_care : AllByRecursion IsWord (names_of circuit.dont_care)

pub words_parts : (circuit : Circuit) → AllByRecursion (λ name. is_word name ≡ true) (all_names circuit) → HasWords circuit
unfolding all_names
words_parts circuit (first, rest) =
    let a = all_parts IsWord circuit.inputs _ rest in
    let b = all_parts IsWord circuit.outputs _ a.1 in
    let c = all_parts IsWord circuit.clocks _ b.1 in
    let d = all_parts IsWord (control_of circuit.timing) _ c.1 in
    let e = all_parts IsWord (latch_outputs circuit) _ d.1 in
    let f = all_parts IsWord (latch_inputs circuit) _ e.1 in
    let g = all_parts IsWord (names_of circuit.tables) _ f.1 in record {
      name = first;
      inputs = a.0;
      outputs = b.0;
      clocks = c.0;
      control = d.0;
      latch_outputs = e.0;
      latch_inputs = f.0;
      tables = g.0;
      dont_care = g.1;
    }

pub parts_words : (circuit : Circuit) → HasWords circuit → AllByRecursion (λ name. is_word name ≡ true) (all_names circuit)
unfolding all_names
parts_words circuit w = (
  w.name,
  all_append IsWord circuit.inputs _ w.inputs
      (all_append IsWord circuit.outputs _ w.outputs
      (all_append IsWord circuit.clocks _ w.clocks
      (all_append IsWord (control_of circuit.timing) _ w.control
      (all_append IsWord (latch_outputs circuit) _ w.latch_outputs
      (all_append IsWord (latch_inputs circuit) _ w.latch_inputs
      (all_append IsWord (names_of circuit.tables) (names_of circuit.dont_care) w.tables w.dont_care)))))),
)

-- a sound circuit is what the laws of edits ask for
pub sound_settled : (circuit : Circuit) → IsSound circuit → IsSettled circuit
unfolding given
sound_settled circuit sound = record {
  acyclic = sound.acyclic;
  apart = each circuit.tables (subst (λ (names : List (List ℕ)). all_different names ≡ true) (sym (append_assoc circuit.inputs (latch_outputs circuit) (outputs_of circuit.tables))) sound.one_driver);
}
  where
    by_names : (tables : List Table) → ((name : List ℕ) → has (leaf_names circuit) name ≡ true → has (outputs_of tables) name ≡ true → ⊥)
        → AllByRecursion (λ (table : Table). has (leaf_names circuit) table.output ≡ false) tables
    by_names [] h = tt
    by_names (table ∷ tables) h =
        (has_not (leaf_names circuit) table.output (λ among. h table.output among (has_head table.output (outputs_of tables))), by_names tables (λ name here there. h name here (has_tail table.output (outputs_of tables) name there)))

    each : (tables : List Table) → all_different ((circuit.inputs ++ latch_outputs circuit) ++ outputs_of tables) ≡ true
        → AllByRecursion (λ (table : Table). has (leaf_names circuit) table.output ≡ false) tables
    each tables different = by_names tables (different_apart (circuit.inputs ++ latch_outputs circuit) (outputs_of tables) different).between

-- what nothing drives, nothing reads
pub taken_given : (circuit : Circuit) → IsSound circuit → (name : List ℕ) → has (given circuit) name ≡ false → has (taken circuit) name ≡ false
taken_given circuit sound name none = has_not (taken circuit) name (λ among. false≢true (sym none ∙ all_has (λ x. has (given circuit) x ≡ true) (taken circuit) sound.driven name among))

pub fitting_apart : (circuit : Circuit) (new : Table) → IsFitting circuit new → has (given circuit) new.output ≡ false → has new.inputs new.output ≡ false
fitting_apart circuit new fits none = has_not new.inputs new.output (λ among. false≢true (sym none ∙ all_has (λ x. has (given circuit) x ≡ true) new.inputs fits.live new.output among))

-- what drives a signal has a name that is a word
pub given_words : (circuit : Circuit) → HasWords circuit → AllByRecursion IsWord (given circuit)
unfolding given
given_words circuit w =
    all_append IsWord circuit.inputs (latch_outputs circuit ++ outputs_of circuit.tables) w.inputs
    (all_append IsWord (latch_outputs circuit) (outputs_of circuit.tables) w.latch_outputs (outputs_words circuit.tables w.tables))
  where
    outputs_words : (tables : List Table) → AllByRecursion IsWord (names_of tables) → AllByRecursion IsWord (outputs_of tables)
    outputs_words [] h = tt
    outputs_words (table ∷ tables) h = (h.0, outputs_words tables (all_parts IsWord table.inputs (names_of tables) h.1).1)

fitting_words : (circuit : Circuit) (new : Table) → HasWords circuit → IsFitting circuit new → AllByRecursion IsWord new.inputs
fitting_words circuit new w fits =
    all_weaker (λ name. has (given circuit) name ≡ true) IsWord (λ name live. all_has IsWord (given circuit) (given_words circuit w) name live) new.inputs fits.live

-- one table replaced
all_replaced : (P : Table → Type 0) (tables : List Table) (new : Table) → AllByRecursion P tables → P new → AllByRecursion P (replaced tables new)
unfolding replaced
all_replaced P [] new all this = tt
all_replaced P (first ∷ tables) new all this = cases (bytes_eq new.output first.output) (all_replaced P tables new all.1 this)
  where
    cases : (b : Bool) → AllByRecursion P (replaced tables new) → AllByRecursion P (cond b (new ∷ tables) (first ∷ replaced tables new))
    cases true rest = (this, all.1)
    cases false rest = (all.0, rest)

-- what holds of each name that a table mentions
pub each_name : (P : List ℕ → Type 0) (list : Table → List (List ℕ)) (tables : List Table) → AllByRecursion P (flat_map list tables) → AllByRecursion (λ (table : Table). AllByRecursion P (list table)) tables
each_name P list [] h = tt
each_name P list (table ∷ tables) h = let parts = all_parts P (list table) (flat_map list tables) h in (parts.0, each_name P list tables parts.1)

pub names_each : (P : List ℕ → Type 0) (list : Table → List (List ℕ)) (tables : List Table) → AllByRecursion (λ (table : Table). AllByRecursion P (list table)) tables → AllByRecursion P (flat_map list tables)
names_each P list [] h = tt
names_each P list (table ∷ tables) h = all_append P (list table) (flat_map list tables) h.0 (names_each P list tables h.1)

given-replaced : (circuit : Circuit) (new : Table) → given (with_replaced circuit new) ≡ given circuit
unfolding given with_replaced
given-replaced circuit new = ap (λ (names : List (List ℕ)). circuit.inputs ++ (latch_outputs circuit ++ names)) (outputs-replaced circuit.tables new)

given_outputs : (circuit : Circuit) (name : List ℕ) → has (outputs_of circuit.tables) name ≡ true → has (given circuit) name ≡ true
unfolding given
given_outputs circuit name h = has_back circuit.inputs (latch_outputs circuit ++ outputs_of circuit.tables) name (has_back (latch_outputs circuit) (outputs_of circuit.tables) name h)

replaced_words : (circuit : Circuit) (new : Table) → HasWords circuit → IsFitting circuit new → has (outputs_of circuit.tables) new.output ≡ true → HasWords (with_replaced circuit new)
unfolding with_replaced
replaced_words circuit new w fits driven = record {
  name = w.name;
  inputs = w.inputs;
  outputs = w.outputs;
  clocks = w.clocks;
  control = w.control;
  latch_outputs = w.latch_outputs;
  latch_inputs = w.latch_inputs;
  tables = names_each IsWord (λ (t : Table). t.output ∷ t.inputs) (replaced circuit.tables new)
      (all_replaced (λ (t : Table). AllByRecursion IsWord (t.output ∷ t.inputs)) circuit.tables new
      (each_name IsWord (λ (t : Table). t.output ∷ t.inputs) circuit.tables w.tables)
      (all_has IsWord (given circuit) (given_words circuit w) new.output (given_outputs circuit new.output driven), fitting_words circuit new w fits));
  dont_care = w.dont_care;
}

pub sound_replaced : (circuit : Circuit) (new : Table) → IsSound circuit → has (outputs_of circuit.tables) new.output ≡ true → IsFitting circuit new → IsAcyclic (replaced circuit.tables new)
    → IsSound (with_replaced circuit new)
unfolding with_replaced taken
sound_replaced circuit new sound driven fits acyclic = record {
  words = parts_words (with_replaced circuit new) (replaced_words circuit new (words_parts circuit sound.words) fits driven);
  inputs_once = sound.inputs_once;
  outputs_once = sound.outputs_once;
  one_driver = ap all_different (given-replaced circuit new) ∙ sound.one_driver;
  driven =
      subst (λ (names : List (List ℕ)). AllByRecursion (λ name. has names name ≡ true) (table_inputs (replaced circuit.tables new) ++ (latch_inputs circuit ++ circuit.outputs))) (sym (given-replaced circuit new))
      (let parts = all_parts (λ name. has (given circuit) name ≡ true) (table_inputs circuit.tables) (latch_inputs circuit ++ circuit.outputs) sound.driven in
      all_append (λ name. has (given circuit) name ≡ true) (table_inputs (replaced circuit.tables new)) (latch_inputs circuit ++ circuit.outputs)
      (names_each (λ name. has (given circuit) name ≡ true) (λ (t : Table). t.inputs) (replaced circuit.tables new)
      (all_replaced (λ (t : Table). AllByRecursion (λ name. has (given circuit) name ≡ true) t.inputs) circuit.tables new
      (each_name (λ name. has (given circuit) name ≡ true) (λ (t : Table). t.inputs) circuit.tables parts.0) fits.live))
      parts.1);
  inits = sound.inits;
  untimed_without_latches = sound.untimed_without_latches;
  shaped = all_replaced IsShaped circuit.tables new sound.shaped fits.shaped;
  table_inputs_once = all_replaced (λ (t : Table). all_different t.inputs ≡ true) circuit.tables new sound.table_inputs_once fits.once;
  acyclic = acyclic;
  control_undriven =
      subst (λ (names : List (List ℕ)). AllByRecursion (λ name. has (latch_outputs circuit ++ names) name ≡ false) (control_of circuit.timing)) (sym (outputs-replaced circuit.tables new)) sound.control_undriven;
  control_not_nil = sound.control_not_nil;
  dont_care_once = sound.dont_care_once;
  dont_care_known = sound.dont_care_known;
  dont_care_acyclic = sound.dont_care_acyclic;
  dont_care_shaped = sound.dont_care_shaped;
}

-- a table added last
pub outputs-added : (tables : List Table) (new : Table) → outputs_of (tables ++ new ∷ []) ≡ outputs_of tables ++ new.output ∷ []
outputs-added [] new = refl
outputs-added (first ∷ tables) new = ap (λ (names : List (List ℕ)). first.output ∷ names) (outputs-added tables new)

pub given-added : (circuit : Circuit) (new : Table) → given (with_added circuit new) ≡ given circuit ++ new.output ∷ []
unfolding given with_added
given-added circuit new =
    ap (λ (names : List (List ℕ)). circuit.inputs ++ (latch_outputs circuit ++ names)) (outputs-added circuit.tables new)
    ∙ ap (λ (names : List (List ℕ)). circuit.inputs ++ names) (sym (append_assoc (latch_outputs circuit) (outputs_of circuit.tables) (new.output ∷ [])))
    ∙ sym (append_assoc circuit.inputs (latch_outputs circuit ++ outputs_of circuit.tables) (new.output ∷ []))

pub one_more : (names : List (List ℕ)) (name : List ℕ) → all_different names ≡ true → has names name ≡ false → all_different (names ++ name ∷ []) ≡ true
one_more names name different none =
    apart_different names (name ∷ []) (record {
      front = different;
      back = different_cons name [] refl different_none;
      between = λ x here there.
          elim (or_cases (bytes_eq x name) false there) as (λ _. ⊥) [
            | inl same ↦ false≢true (sym none ∙ subst (λ (y : List ℕ). has names y ≡ true) (same_name x name same) here)
            | inr nowhere ↦ false≢true nowhere
          ];
    })

pub flat_added : (P : List ℕ → Type 0) (list : Table → List (List ℕ)) (tables : List Table) (new : Table) → AllByRecursion P (flat_map list tables) → AllByRecursion P (list new)
    → AllByRecursion P (flat_map list (tables ++ new ∷ []))
flat_added P list tables new all this =
    names_each P list (tables ++ new ∷ []) (all_append (λ (t : Table). AllByRecursion P (list t)) tables (new ∷ []) (each_name P list tables all) (this, tt))

pub control_added : (names : List (List ℕ)) (name : List ℕ) (control : List (List ℕ)) → AllByRecursion (λ x. has names x ≡ false) control → has control name ≡ false
    → AllByRecursion (λ x. has (names ++ name ∷ []) x ≡ false) control
control_added names name [] all none = tt
control_added names name (first ∷ control) all none =
    let parts = or_parts (bytes_eq name first) (has control name) none in
    (has_none names (name ∷ []) first all.0 (or_from (bytes_eq first name) false (name_turned name first parts.0) refl), control_added names name control all.1 parts.1)

pub sound_added : (circuit : Circuit) (new : Table) → IsSound circuit → is_word new.output ≡ true → has (given circuit) new.output ≡ false → has (control_of circuit.timing) new.output ≡ false
    → IsFitting circuit new → IsSound (with_added circuit new)
unfolding taken with_added
sound_added circuit new sound word fresh free fits = record {
  words = parts_words (with_added circuit new) (added_words (words_parts circuit sound.words));
  inputs_once = sound.inputs_once;
  outputs_once = sound.outputs_once;
  one_driver = ap all_different (given-added circuit new) ∙ one_more (given circuit) new.output sound.one_driver fresh;
  driven =
      subst (λ (names : List (List ℕ)). AllByRecursion (λ name. has names name ≡ true) (table_inputs (circuit.tables ++ new ∷ []) ++ (latch_inputs circuit ++ circuit.outputs))) (sym (given-added circuit new))
      (all_weaker (λ name. has (given circuit) name ≡ true) (λ name. has (given circuit ++ new.output ∷ []) name ≡ true) (λ name h. has_front (given circuit) (new.output ∷ []) name h)
      (table_inputs (circuit.tables ++ new ∷ []) ++ (latch_inputs circuit ++ circuit.outputs))
      (let parts = all_parts (λ name. has (given circuit) name ≡ true) (table_inputs circuit.tables) (latch_inputs circuit ++ circuit.outputs) sound.driven in
      all_append (λ name. has (given circuit) name ≡ true) (table_inputs (circuit.tables ++ new ∷ [])) (latch_inputs circuit ++ circuit.outputs)
      (flat_added (λ name. has (given circuit) name ≡ true) (λ (t : Table). t.inputs) circuit.tables new parts.0 fits.live) parts.1));
  inits = sound.inits;
  untimed_without_latches = sound.untimed_without_latches;
  shaped = all_append IsShaped circuit.tables (new ∷ []) sound.shaped (fits.shaped, tt);
  table_inputs_once = all_append (λ (t : Table). all_different t.inputs ≡ true) circuit.tables (new ∷ []) sound.table_inputs_once (fits.once, tt);
  acyclic = added_acyclic circuit.tables new sound.acyclic (taken_not circuit new.output (taken_given circuit sound new.output fresh)).0 (fitting_apart circuit new fits fresh);
  control_undriven =
      subst (λ (names : List (List ℕ)). AllByRecursion (λ name. has names name ≡ false) (control_of circuit.timing))
      (append_assoc (latch_outputs circuit) (outputs_of circuit.tables) (new.output ∷ []) ∙ ap (λ (names : List (List ℕ)). latch_outputs circuit ++ names) (sym (outputs-added circuit.tables new)))
      (control_added (latch_outputs circuit ++ outputs_of circuit.tables) new.output (control_of circuit.timing) sound.control_undriven free);
  control_not_nil = sound.control_not_nil;
  dont_care_once = sound.dont_care_once;
  dont_care_known = sound.dont_care_known;
  dont_care_acyclic = sound.dont_care_acyclic;
  dont_care_shaped = sound.dont_care_shaped;
}
  where
    added_words : HasWords circuit → HasWords (with_added circuit new)
    added_words w = record {
      name = w.name;
      inputs = w.inputs;
      outputs = w.outputs;
      clocks = w.clocks;
      control = w.control;
      latch_outputs = w.latch_outputs;
      latch_inputs = w.latch_inputs;
      tables = flat_added IsWord (λ (t : Table). t.output ∷ t.inputs) circuit.tables new w.tables (word, fitting_words circuit new w fits);
      dont_care = w.dont_care;
    }

-- tables and latches that nothing needs are removed
different_kept : {X : Type 0} (name_of : X → List ℕ) (test : List ℕ → Bool) (xs : List X) → all_different (map name_of xs) ≡ true
    → all_different (map name_of (filter (λ x. test (name_of x)) xs)) ≡ true
different_kept name_of test [] h = h
different_kept name_of test (x ∷ xs) h =
    cases (test (name_of x)) (different_kept name_of test xs (different_tail (name_of x) (map name_of xs) h)) (different_head (name_of x) (map name_of xs) h)
  where
    cases : (k : Bool) → all_different (map name_of (filter (λ y. test (name_of y)) xs)) ≡ true → has (map name_of xs) (name_of x) ≡ false
        → all_different (map name_of (cond k (x ∷ filter (λ y. test (name_of y)) xs) (filter (λ y. test (name_of y)) xs))) ≡ true
    cases true rest none =
        different_cons (name_of x) (map name_of (filter (λ y. test (name_of y)) xs))
        (has_kept name_of test xs (name_of x) ∙ and_right (test (name_of x)) (has (map name_of xs) (name_of x)) none) rest
    cases false rest none = rest

pub given_kept : (circuit : Circuit) (test : List ℕ → Bool) (name : List ℕ) → test name ≡ true → has (given circuit) name ≡ true → has (given (with_kept circuit test)) name ≡ true
unfolding given with_kept
given_kept circuit test name passes h =
    elim (has_either circuit.inputs (latch_outputs circuit ++ outputs_of circuit.tables) name h) as (λ _. has (given (with_kept circuit test)) name ≡ true) [
      | inl input ↦ has_front circuit.inputs (latch_outputs (with_kept circuit test) ++ outputs_of (tables_kept test circuit.tables)) name input
      | inr other ↦
          has_back circuit.inputs (latch_outputs (with_kept circuit test) ++ outputs_of (tables_kept test circuit.tables)) name
          (elim (has_either (latch_outputs circuit) (outputs_of circuit.tables) name other) as (λ _. has (latch_outputs (with_kept circuit test) ++ outputs_of (tables_kept test circuit.tables)) name ≡ true) [
            | inl latch ↦
                has_front (latch_outputs (with_kept circuit test)) (outputs_of (tables_kept test circuit.tables)) name
                (has_latches_kept test circuit.latches name ∙ and_from (test name) (has (latch_outputs circuit) name) passes latch)
            | inr table ↦
                has_back (latch_outputs (with_kept circuit test)) (outputs_of (tables_kept test circuit.tables)) name
                (has_tables_kept test circuit.tables name ∙ and_from (test name) (has (outputs_of circuit.tables) name) passes table)
          ])
    ]

pub kept_different : (circuit : Circuit) (test : List ℕ → Bool) → all_different (given circuit) ≡ true → all_different (given (with_kept circuit test)) ≡ true
unfolding given with_kept tables_kept latches_kept
kept_different circuit test h =
    let outer = different_apart circuit.inputs (latch_outputs circuit ++ outputs_of circuit.tables) h in
    let inner = different_apart (latch_outputs circuit) (outputs_of circuit.tables) outer.back in
    apart_different circuit.inputs (latch_outputs (with_kept circuit test) ++ outputs_of (tables_kept test circuit.tables)) (record {
      front = outer.front;
      back = apart_different (latch_outputs (with_kept circuit test)) (outputs_of (tables_kept test circuit.tables)) (record {
        front = different_kept (λ (latch : Latch). latch.output) test circuit.latches inner.front;
        back = different_kept (λ (table : Table). table.output) test circuit.tables inner.back;
        between = λ name here there. inner.between name (was_latch name here) (was_table name there);
      });
      between = λ name here there.
          outer.between name here
          (elim (has_either (latch_outputs (with_kept circuit test)) (outputs_of (tables_kept test circuit.tables)) name there) as (λ _. has (latch_outputs circuit ++ outputs_of circuit.tables) name ≡ true) [
            | inl latch ↦ has_front (latch_outputs circuit) (outputs_of circuit.tables) name (was_latch name latch)
            | inr table ↦ has_back (latch_outputs circuit) (outputs_of circuit.tables) name (was_table name table)
          ]);
    })
  where
    was_latch : (name : List ℕ) → has (latch_outputs (with_kept circuit test)) name ≡ true → has (latch_outputs circuit) name ≡ true
    was_latch name h = (and_parts (test name) (has (latch_outputs circuit) name) (sym (has_latches_kept test circuit.latches name) ∙ h)).1

    was_table : (name : List ℕ) → has (outputs_of (tables_kept test circuit.tables)) name ≡ true → has (outputs_of circuit.tables) name ≡ true
    was_table name h = (and_parts (test name) (has (outputs_of circuit.tables) name) (sym (has_tables_kept test circuit.tables name) ∙ h)).1

-- what is read of kept tables and latches is needed
tables_need : (test : List ℕ → Bool) (tables : List Table) → AllByRecursion (λ (t : Table). test t.output ≡ true → AllByRecursion (λ name. test name ≡ true) t.inputs) tables
    → AllByRecursion (λ name. test name ≡ true) (table_inputs (tables_kept test tables))
unfolding tables_kept
tables_need test [] h = tt
tables_need test (table ∷ tables) h = cases (test table.output) refl (tables_need test tables h.1)
  where
    cases : (k : Bool) → test table.output ≡ k → AllByRecursion (λ name. test name ≡ true) (table_inputs (tables_kept test tables))
        → AllByRecursion (λ name. test name ≡ true) (table_inputs (cond k (table ∷ tables_kept test tables) (tables_kept test tables)))
    cases true stays rest = all_append (λ name. test name ≡ true) table.inputs (table_inputs (tables_kept test tables)) (h.0 stays) rest
    cases false goes rest = rest

latches_need : (test : List ℕ → Bool) (latches : List Latch) → AllByRecursion (λ (l : Latch). test l.output ≡ true → test l.input ≡ true) latches
    → AllByRecursion (λ name. test name ≡ true) (map (λ (l : Latch). l.input) (latches_kept test latches))
unfolding latches_kept
latches_need test [] h = tt
latches_need test (latch ∷ latches) h = cases (test latch.output) refl (latches_need test latches h.1)
  where
    cases : (k : Bool) → test latch.output ≡ k → AllByRecursion (λ name. test name ≡ true) (map (λ (l : Latch). l.input) (latches_kept test latches))
        → AllByRecursion (λ name. test name ≡ true) (map (λ (l : Latch). l.input) (cond k (latch ∷ latches_kept test latches) (latches_kept test latches)))
    cases true stays rest = (h.0 stays, rest)
    cases false goes rest = rest

-- a part of a list of names
pub kept_names : {X : Type 0} (P : List ℕ → Type 0) (name_of : X → List ℕ) (test : X → Bool) (xs : List X) → AllByRecursion P (map name_of xs) → AllByRecursion P (map name_of (filter test xs))
kept_names P name_of test [] h = tt
kept_names P name_of test (x ∷ xs) h = cases (test x) (kept_names P name_of test xs h.1)
  where
    cases : (k : Bool) → AllByRecursion P (map name_of (filter test xs)) → AllByRecursion P (map name_of (cond k (x ∷ filter test xs) (filter test xs)))
    cases true rest = (h.0, rest)
    cases false rest = rest

pub flat_kept : (P : List ℕ → Type 0) (list : Table → List (List ℕ)) (test : List ℕ → Bool) (tables : List Table) → AllByRecursion P (flat_map list tables) → AllByRecursion P (flat_map list (tables_kept test tables))
unfolding tables_kept
flat_kept P list test tables h = names_each P list (tables_kept test tables) (all_filter (λ (t : Table). AllByRecursion P (list t)) (λ (t : Table). test t.output) tables (each_name P list tables h))

-- the control is what it was, or there is none
pub timing_all : (P : List ℕ → Type 0) (latches : List Latch) (timing : Option Timing) → AllByRecursion P (control_of timing) → AllByRecursion P (control_of (timing_with latches timing))
timing_all P [] timing h = tt
timing_all P (latch ∷ latches) timing h = h

pub timing_has : (latches : List Latch) (timing : Option Timing) (name : List ℕ) → has (control_of timing) name ≡ false → has (control_of (timing_with latches timing)) name ≡ false
timing_has [] timing name h = refl
timing_has (latch ∷ latches) timing name h = h

pub timing_none : (latches : List Latch) (timing : Option Timing) → latches ≡ [] → timing_with latches timing ≡ None
timing_none [] timing e = refl
timing_none (latch ∷ latches) timing e = ap (λ (some : List Latch). timing_with some timing) e

pub undriven_kept : (circuit : Circuit) (test : List ℕ → Bool) (name : List ℕ) → has (latch_outputs circuit ++ outputs_of circuit.tables) name ≡ false
    → has (latch_outputs (with_kept circuit test) ++ outputs_of (tables_kept test circuit.tables)) name ≡ false
unfolding with_kept
undriven_kept circuit test name h =
    let parts = has_neither (latch_outputs circuit) (outputs_of circuit.tables) name h in
    has_none (latch_outputs (with_kept circuit test)) (outputs_of (tables_kept test circuit.tables)) name
    (has_latches_kept test circuit.latches name ∙ and_right (test name) (has (latch_outputs circuit) name) parts.0)
    (has_tables_kept test circuit.tables name ∙ and_right (test name) (has (outputs_of circuit.tables) name) parts.1)

pub known_kept : (circuit : Circuit) (test : List ℕ → Bool) (name : List ℕ) → (has (outputs_of circuit.dont_care) name ≡ true) ⊎ (test name ≡ true)
    → has (outputs_of circuit.dont_care ++ leaf_names circuit) name ≡ true → has (outputs_of circuit.dont_care ++ leaf_names (with_kept circuit test)) name ≡ true
unfolding with_kept
known_kept circuit test name (inl own) h = has_front (outputs_of circuit.dont_care) (leaf_names (with_kept circuit test)) name own
known_kept circuit test name (inr passes) h =
    elim (has_either (outputs_of circuit.dont_care) (leaf_names circuit) name h) as (λ _. has (outputs_of circuit.dont_care ++ leaf_names (with_kept circuit test)) name ≡ true) [
      | inl own ↦ has_front (outputs_of circuit.dont_care) (leaf_names (with_kept circuit test)) name own
      | inr leaf ↦
          has_back (outputs_of circuit.dont_care) (leaf_names (with_kept circuit test)) name
          (elim (has_either circuit.inputs (latch_outputs circuit) name leaf) as (λ _. has (leaf_names (with_kept circuit test)) name ≡ true) [
            | inl input ↦ has_front circuit.inputs (latch_outputs (with_kept circuit test)) name input
            | inr latch ↦
                has_back circuit.inputs (latch_outputs (with_kept circuit test)) name
                (has_latches_kept test circuit.latches name ∙ and_from (test name) (has (latch_outputs circuit) name) passes latch)
          ])
    ]

pub kept_words : (circuit : Circuit) (test : List ℕ → Bool) → HasWords circuit → HasWords (with_kept circuit test)
unfolding with_kept latches_kept
kept_words circuit test w = record {
  name = w.name;
  inputs = w.inputs;
  outputs = w.outputs;
  clocks = w.clocks;
  control = timing_all IsWord (latches_kept test circuit.latches) circuit.timing w.control;
  latch_outputs = kept_names IsWord (λ (l : Latch). l.output) (λ (l : Latch). test l.output) circuit.latches w.latch_outputs;
  latch_inputs = kept_names IsWord (λ (l : Latch). l.input) (λ (l : Latch). test l.output) circuit.latches w.latch_inputs;
  tables = flat_kept IsWord (λ (t : Table). t.output ∷ t.inputs) test circuit.tables w.tables;
  dont_care = w.dont_care;
}

-- what is read after it is needed, and something drove it
kept_driven : (circuit : Circuit) (test : List ℕ → Bool) → IsSound circuit → IsClosed circuit test
    → AllByRecursion (λ name. has (given (with_kept circuit test)) name ≡ true) (taken (with_kept circuit test))
unfolding taken with_kept latches_kept
kept_driven circuit test sound closed =
    let parts = all_parts (λ name. has (given circuit) name ≡ true) (table_inputs circuit.tables) (latch_inputs circuit ++ circuit.outputs) sound.driven in
    let others = all_parts (λ name. has (given circuit) name ≡ true) (latch_inputs circuit) circuit.outputs parts.1 in
    all_append (λ name. has (given (with_kept circuit test)) name ≡ true) (table_inputs (tables_kept test circuit.tables)) (latch_inputs (with_kept circuit test) ++ circuit.outputs)
    (both (table_inputs (tables_kept test circuit.tables)) (tables_need test circuit.tables closed.tables) (flat_kept (λ name. has (given circuit) name ≡ true) (λ (t : Table). t.inputs) test circuit.tables parts.0))
    (all_append (λ name. has (given (with_kept circuit test)) name ≡ true) (latch_inputs (with_kept circuit test)) circuit.outputs
    (both (latch_inputs (with_kept circuit test)) (latches_need test circuit.latches closed.latches)
    (kept_names (λ name. has (given circuit) name ≡ true) (λ (l : Latch). l.input) (λ (l : Latch). test l.output) circuit.latches others.0))
    (both circuit.outputs closed.outputs others.1))
  where
    both : (names : List (List ℕ)) → AllByRecursion (λ name. test name ≡ true) names → AllByRecursion (λ name. has (given circuit) name ≡ true) names
        → AllByRecursion (λ name. has (given (with_kept circuit test)) name ≡ true) names
    both [] p q = tt
    both (name ∷ names) p q = (given_kept circuit test name p.0 q.0, both names p.1 q.1)

pub sound_kept : (circuit : Circuit) (test : List ℕ → Bool) → IsSound circuit → IsClosed circuit test → IsSound (with_kept circuit test)
unfolding with_kept tables_kept latches_kept
sound_kept circuit test sound closed = record {
  words = parts_words (with_kept circuit test) (kept_words circuit test (words_parts circuit sound.words));
  inputs_once = sound.inputs_once;
  outputs_once = sound.outputs_once;
  one_driver = kept_different circuit test sound.one_driver;
  driven = kept_driven circuit test sound closed;
  inits = all_filter (λ (l : Latch). l.init ≤ 3) (λ (l : Latch). test l.output) circuit.latches sound.inits;
  untimed_without_latches = λ none. timing_none (latches_kept test circuit.latches) circuit.timing none;
  shaped = all_filter IsShaped (λ (t : Table). test t.output) circuit.tables sound.shaped;
  table_inputs_once = all_filter (λ (t : Table). all_different t.inputs ≡ true) (λ (t : Table). test t.output) circuit.tables sound.table_inputs_once;
  acyclic = kept_acyclic test circuit.tables sound.acyclic;
  control_undriven =
      timing_all (λ name. has (latch_outputs (with_kept circuit test) ++ outputs_of (tables_kept test circuit.tables)) name ≡ false) (latches_kept test circuit.latches) circuit.timing
      (all_weaker (λ name. has (latch_outputs circuit ++ outputs_of circuit.tables) name ≡ false) (λ name. has (latch_outputs (with_kept circuit test) ++ outputs_of (tables_kept test circuit.tables)) name ≡ false)
      (undriven_kept circuit test) (control_of circuit.timing) sound.control_undriven);
  control_not_nil = timing_has (latches_kept test circuit.latches) circuit.timing (codes "NIL") sound.control_not_nil;
  dont_care_once = sound.dont_care_once;
  dont_care_known = known (table_inputs circuit.dont_care) closed.dont_care sound.dont_care_known;
  dont_care_acyclic = sound.dont_care_acyclic;
  dont_care_shaped = sound.dont_care_shaped;
}
  where
    known : (names : List (List ℕ)) → AllByRecursion (λ name. (has (outputs_of circuit.dont_care) name ≡ true) ⊎ (test name ≡ true)) names
        → AllByRecursion (λ name. has (outputs_of circuit.dont_care ++ leaf_names circuit) name ≡ true) names
        → AllByRecursion (λ name. has (outputs_of circuit.dont_care ++ leaf_names (with_kept circuit test)) name ≡ true) names
    known [] p q = tt
    known (name ∷ names) p q = (known_kept circuit test name p.0 q.0, known names p.1 q.1)

-- a name that occurs nowhere in a circuit
pub unused_parts : (circuit : Circuit) (name : List ℕ) → has (all_names circuit) name ≡ false → (has (given circuit) name ≡ false) × (has (control_of circuit.timing) name ≡ false)
unfolding all_names given
unused_parts circuit name h =
    let first = or_parts (bytes_eq name circuit.name) (has (circuit.inputs ++ _) name) h in
    let inputs = has_neither circuit.inputs _ name first.1 in
    let outputs = has_neither circuit.outputs _ name inputs.1 in
    let clocks = has_neither circuit.clocks _ name outputs.1 in
    let control = has_neither (control_of circuit.timing) _ name clocks.1 in
    let latches = has_neither (latch_outputs circuit) _ name control.1 in
    let ins = has_neither (latch_inputs circuit) _ name latches.1 in
    let tables = has_neither (names_of circuit.tables) (names_of circuit.dont_care) name ins.1 in
    (has_none circuit.inputs (latch_outputs circuit ++ outputs_of circuit.tables) name inputs.0 (has_none (latch_outputs circuit) (outputs_of circuit.tables) name latches.0 (outputs_not circuit.tables tables.0)), control.0)
  where
    outputs_not : (tables : List Table) → has (names_of tables) name ≡ false → has (outputs_of tables) name ≡ false
    outputs_not [] none = refl
    outputs_not (table ∷ tables) none =
        let head = or_parts (bytes_eq name table.output) (has (table.inputs ++ names_of tables) name) none in
        or_from (bytes_eq name table.output) (has (outputs_of tables) name) head.0 (outputs_not tables (has_neither table.inputs (names_of tables) name head.1).1)

pub unused_given : (circuit : Circuit) (name : List ℕ) → has (all_names circuit) name ≡ false → has (given circuit) name ≡ false
unused_given circuit name h = (unused_parts circuit name h).0

pub unused_control : (circuit : Circuit) (name : List ℕ) → has (all_names circuit) name ≡ false → has (control_of circuit.timing) name ≡ false
unused_control circuit name h = (unused_parts circuit name h).1

pub sound_removed : (circuit : Circuit) (name : List ℕ) → IsSound circuit → is_read circuit name ≡ false → is_root circuit name ≡ false → IsSound (with_removed circuit name)
sound_removed circuit name sound unread rootless = sound_kept circuit (is_other name) sound (unread_closed circuit name unread rootless)
