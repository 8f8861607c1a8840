-- Tables of a sound circuit: they drive different signals and read what is driven, and the circuit stays sound where each becomes
-- another one of its signal.
use Rattle.std.proofs.Common.{◌≡◌, ℕ, true, false, List, [], ◌∷◌, ◌++◌, map, refl, sym, ap, ◌∙◌, subst, inl, inr, ◌⊎◌}
use Rattle.std.specs.List.{AllByRecursion}
use Rattle.circuit_model.specs.Names.{has, all_different}
use Rattle.circuit_model.specs.Runs.{latch_outputs}
use Rattle.circuit_model.specs.Soundness.{outputs_of, latch_inputs, control_of, table_inputs, given, taken, IsAcyclic, IsShaped, IsSound}
use Rattle.circuit_model.specs.declared.circuit.Table.{Table}
use Rattle.circuit_model.specs.declared.circuit.Circuit.{Circuit}
use Rattle.circuit_laws.specs.Edits.{with_tables, with_replaced}
use Rattle.circuit_laws.proofs.Names.{all_has, all_from_has, different_apart}
use Rattle.circuit_laws.proofs.Drivers.{outputs-replaced}
use Rattle.circuit_laws.proofs.Sound.{IsWord, HasWords, words_parts, parts_words, given_words, all_append, all_parts, names_each, each_name}

-- the signals that tables drive are different, and so are those of latches
pub outputs_different : (circuit : Circuit) → IsSound circuit → all_different (outputs_of circuit.tables) ≡ true
unfolding given
outputs_different circuit sound =
    (different_apart (latch_outputs circuit) (outputs_of circuit.tables) (different_apart circuit.inputs (latch_outputs circuit ++ outputs_of circuit.tables) sound.one_driver).back).back

pub latches_different : (circuit : Circuit) → IsSound circuit → all_different (latch_outputs circuit) ≡ true
unfolding given
latches_different circuit sound =
    (different_apart (latch_outputs circuit) (outputs_of circuit.tables) (different_apart circuit.inputs (latch_outputs circuit ++ outputs_of circuit.tables) sound.one_driver).back).front

-- what a table reads is driven
pub live_reads : (circuit : Circuit) → IsSound circuit → (name : List ℕ) → has (table_inputs circuit.tables) name ≡ true → has (given circuit) name ≡ true
unfolding taken
live_reads circuit sound name reads =
    all_has (λ x. has (given circuit) x ≡ true) (table_inputs circuit.tables)
    (all_parts (λ x. has (given circuit) x ≡ true) (table_inputs circuit.tables) (latch_inputs circuit ++ circuit.outputs) sound.driven).0 name reads

pub given-turned : (circuit : Circuit) (new : Table) → given (with_replaced circuit new) ≡ given circuit
unfolding given with_replaced
given-turned circuit new = ap (λ (names : List (List ℕ)). circuit.inputs ++ (latch_outputs circuit ++ names)) (outputs-replaced circuit.tables new)

-- each table becomes another one of its signal

pub all_turned : (P Q : Table → Type 0) (turn : Table → Table) → ((table : Table) → P table → Q (turn table)) → (tables : List Table) → AllByRecursion P tables → AllByRecursion Q (map turn tables)
all_turned P Q turn h [] all = tt
all_turned P Q turn h (table ∷ tables) all = (h table all.0, all_turned P Q turn h tables all.1)

pub outputs-mapped : (turn : Table → Table) → ((table : Table) → (turn table).output ≡ table.output) → (tables : List Table) → outputs_of (map turn tables) ≡ outputs_of tables
outputs-mapped turn keeps [] = refl
outputs-mapped turn keeps (table ∷ tables) = rw (keeps table, outputs-mapped turn keeps tables) refl

pub given-mapped : (circuit : Circuit) (turn : Table → Table) → ((table : Table) → (turn table).output ≡ table.output) → given (with_tables circuit (map turn circuit.tables)) ≡ given circuit
unfolding given
given-mapped circuit turn keeps = ap (λ (names : List (List ℕ)). circuit.inputs ++ (latch_outputs circuit ++ names)) (outputs-mapped turn keeps circuit.tables)

-- a rewriting of tables that keeps the output, each input once and the shape, and reads what the
-- table reads or what is driven
pub record IsTurn (circuit : Circuit) (turn : Table → Table) : Type 0 where
  pub keeps : (table : Table) → (turn table).output ≡ table.output
  pub once : (table : Table) → all_different table.inputs ≡ true → all_different (turn table).inputs ≡ true
  pub shaped : (table : Table) → IsShaped table → IsShaped (turn table)
  pub reads : (table : Table) (name : List ℕ) → has (turn table).inputs name ≡ true → (has table.inputs name ≡ true) ⊎ (has (given circuit) name ≡ true)

mapped_words : (circuit : Circuit) (turn : Table → Table) → HasWords circuit → IsTurn circuit turn → HasWords (with_tables circuit (map turn circuit.tables))
mapped_words circuit turn w turns = record {
  name = w.name;
  inputs = w.inputs;
  outputs = w.outputs;
  clocks = w.clocks;
  control = w.control;
  latch_outputs = w.latch_outputs;
  latch_inputs = w.latch_inputs;
  tables = names_each IsWord (λ (t : Table). t.output ∷ t.inputs) (map turn circuit.tables)
      (all_turned (λ (t : Table). AllByRecursion IsWord (t.output ∷ t.inputs)) (λ (t : Table). AllByRecursion IsWord (t.output ∷ t.inputs)) turn
      (λ t words. (
        subst IsWord (sym (turns.keeps t)) words.0,
        all_from_has IsWord (turn t).inputs (λ name there.
            elim (turns.reads t name there) as (λ _. IsWord name) [
              | inl old ↦ all_has IsWord t.inputs words.1 name old
              | inr live ↦ all_has IsWord (given circuit) (given_words circuit w) name live
            ]),
      ))
      circuit.tables (each_name IsWord (λ (t : Table). t.output ∷ t.inputs) circuit.tables w.tables));
  dont_care = w.dont_care;
}

pub sound_mapped : (circuit : Circuit) (turn : Table → Table) → IsSound circuit → IsTurn circuit turn → IsAcyclic (map turn circuit.tables) → IsSound (with_tables circuit (map turn circuit.tables))
unfolding taken
sound_mapped circuit turn sound turns acyclic = record {
  words = parts_words (with_tables circuit (map turn circuit.tables)) (mapped_words circuit turn (words_parts circuit sound.words) turns);
  inputs_once = sound.inputs_once;
  outputs_once = sound.outputs_once;
  one_driver = ap all_different (given-mapped circuit turn turns.keeps) ∙ sound.one_driver;
  driven =
      subst (λ (names : List (List ℕ)). AllByRecursion (λ name. has names name ≡ true) (table_inputs (map turn circuit.tables) ++ (latch_inputs circuit ++ circuit.outputs))) (sym (given-mapped circuit turn turns.keeps))
      (let parts = all_parts (λ name. has (given circuit) name ≡ true) (table_inputs circuit.tables) (latch_inputs circuit ++ circuit.outputs) sound.driven in
      all_append (λ name. has (given circuit) name ≡ true) (table_inputs (map turn circuit.tables)) (latch_inputs circuit ++ circuit.outputs)
      (names_each (λ name. has (given circuit) name ≡ true) (λ (t : Table). t.inputs) (map turn circuit.tables)
      (all_turned (λ (t : Table). AllByRecursion (λ name. has (given circuit) name ≡ true) t.inputs) (λ (t : Table). AllByRecursion (λ name. has (given circuit) name ≡ true) t.inputs) turn
      (λ t live. all_from_has (λ name. has (given circuit) name ≡ true) (turn t).inputs (λ name there.
      elim (turns.reads t name there) as (λ _. has (given circuit) name ≡ true) [
        | inl old ↦ all_has (λ x. has (given circuit) x ≡ true) t.inputs live name old
        | inr driven ↦ driven
      ]))
      circuit.tables (each_name (λ name. has (given circuit) name ≡ true) (λ (t : Table). t.inputs) circuit.tables parts.0)))
      parts.1);
  inits = sound.inits;
  untimed_without_latches = sound.untimed_without_latches;
  shaped = all_turned IsShaped IsShaped turn turns.shaped circuit.tables sound.shaped;
  table_inputs_once = all_turned (λ (t : Table). all_different t.inputs ≡ true) (λ (t : Table). all_different t.inputs ≡ true) turn turns.once circuit.tables sound.table_inputs_once;
  acyclic = acyclic;
  control_undriven =
      subst (λ (names : List (List ℕ)). AllByRecursion (λ name. has (latch_outputs circuit ++ names) name ≡ false) (control_of circuit.timing)) (sym (outputs-mapped turn turns.keeps circuit.tables)) sound.control_undriven;
  control_not_nil = sound.control_not_nil;
  dont_care_once = sound.dont_care_once;
  dont_care_known = sound.dont_care_known;
  dont_care_acyclic = sound.dont_care_acyclic;
  dont_care_shaped = sound.dont_care_shaped;
}
