-- Changes of tables: what they keep, and that they compose.
use Rattle.std.specs.List.{AllByRecursion}
use Rattle.std.proofs.Common.{◌≡◌, ℕ, Bool, true, false, Option, Some, None, List, [], ◌∷◌, ◌++◌, refl, sym, ap, ap₂, ◌∙◌, subst}
use Rattle.sis_base.specs.Written.{is_word}
use Rattle.circuit_model.specs.Names.{has}
use Rattle.circuit_model.specs.Runs.{latch_outputs, Refines}
use Rattle.circuit_model.specs.Soundness.{outputs_of, latch_inputs, table_inputs, control_of, given, taken, IsSound}
use Rattle.circuit_model.specs.declared.circuit.Table.{Table}
use Rattle.circuit_model.specs.declared.circuit.Latch.{Latch}
use Rattle.circuit_model.specs.declared.circuit.Timing.{Timing}
use Rattle.circuit_model.specs.declared.circuit.Circuit.{Circuit}
use Rattle.circuit_laws.specs.Chains.{Chain}
use Rattle.circuit_laws.specs.Greedy.{Reaches, HasEnd}
use Rattle.circuit_laws.specs.Edits.{tables_kept, latches_kept, timing_with, with_tables, with_kept, with_removed, with_added, is_other, is_read, is_root}
use Rattle.circuit_laws.specs.Fitting.{IsFitting}
use Rattle.circuit_laws.specs.Same.{IsSame, KeepsEach, KeepsValues}
use Rattle.circuit_laws.proofs.Names.{all_has, has_front}
use Rattle.circuit_laws.specs.Kept.{IsClosed}
use Rattle.circuit_laws.proofs.Kept.{latches_all, others_latches, unread_closed, kept_each}
use Rattle.circuit_laws.proofs.Left.{kept_left}
use Rattle.circuit_laws.proofs.Same.{same_where, same_refines, keeps_itself, keeps_through}
use Rattle.circuit_laws.proofs.Sound.{all_parts, given-added, sound_added, sound_kept, taken_given, fitting_apart}
use Rattle.circuit_laws.proofs.Tables.{added_keeps, each_keeps}
use Rattle.circuit_laws.specs.Changes.{IsChanged, IsReduced, IsExtended}
use Rattle.circuit_laws.proofs.Greedy.{reached_kept}

-- what a sound circuit's outputs and latches read is driven
outputs_driven : (circuit : Circuit) → IsSound circuit → (name : List ℕ) → has circuit.outputs name ≡ true → has (given circuit) name ≡ true
unfolding taken
outputs_driven circuit sound name among =
    let parts = all_parts (λ x. has (given circuit) x ≡ true) (table_inputs circuit.tables) (latch_inputs circuit ++ circuit.outputs) sound.driven in
    all_has (λ x. has (given circuit) x ≡ true) circuit.outputs (all_parts (λ x. has (given circuit) x ≡ true) (latch_inputs circuit) circuit.outputs parts.1).1 name among

inputs_driven : (circuit : Circuit) → IsSound circuit → (name : List ℕ) → has (latch_inputs circuit) name ≡ true → has (given circuit) name ≡ true
unfolding taken
inputs_driven circuit sound name among =
    let parts = all_parts (λ x. has (given circuit) x ≡ true) (table_inputs circuit.tables) (latch_inputs circuit ++ circuit.outputs) sound.driven in
    all_has (λ x. has (given circuit) x ≡ true) (latch_inputs circuit) (all_parts (λ x. has (given circuit) x ≡ true) (latch_inputs circuit) circuit.outputs parts.1).0 name among

-- such a change leaves the same circuit
with_same : (old : Circuit) (tables : List Table) → IsSound old → IsSound (with_tables old tables) → KeepsValues old (with_tables old tables) → IsSame old (with_tables old tables)
with_same old tables before after values =
    same_where old tables
    (λ state row a output among unfree. values.kept state row a output (outputs_driven old before output among) (outputs_driven (with_tables old tables) after output among))
    (λ state row a signal among. values.kept state row a signal (inputs_driven old before signal among) (inputs_driven (with_tables old tables) after signal among))

pub changed_same : (old new : Circuit) → IsSound old → IsChanged old new → IsSame old new
changed_same old new sound change =
    subst (IsSame old) (sym change.rest)
    (with_same old new.tables sound (subst IsSound change.rest change.sound) (subst (KeepsValues old) change.rest change.values))

pub changed_refines : (old new : Circuit) → IsSound old → IsChanged old new → Refines old new
changed_refines old new sound change = same_refines old new (changed_same old new sound change)

-- nothing changes
changed_itself : (circuit : Circuit) → IsSound circuit → IsChanged circuit circuit
changed_itself circuit sound = record { sound = sound; rest = refl; values = keeps_itself circuit }

pub reduced_itself : (circuit : Circuit) → IsSound circuit → IsReduced circuit circuit
reduced_itself circuit sound = record { change = changed_itself circuit sound; signals = λ signal h. h }

pub extended_itself : (circuit : Circuit) → IsSound circuit → IsExtended circuit circuit
extended_itself circuit sound = record { change = changed_itself circuit sound; signals = λ signal h. h }

-- one change after another
changed_through : (first second third : Circuit) → ((signal : List ℕ) → has (given first) signal ≡ true → has (given third) signal ≡ true → has (given second) signal ≡ true)
    → IsChanged first second → IsChanged second third → IsChanged first third
changed_through first second third among p q = record {
  sound = q.sound;
  rest = q.rest ∙ ap (λ (circuit : Circuit). with_tables circuit third.tables) p.rest;
  values = keeps_through first second third (sym (ap (λ (circuit : Circuit). circuit.inputs) p.rest)) (sym (ap (λ (circuit : Circuit). circuit.latches) p.rest)) among p.values q.values;
}

pub reduced_through : (first second third : Circuit) → IsReduced first second → IsReduced second third → IsReduced first third
reduced_through first second third p q = record {
  change = changed_through first second third (λ signal here there. q.signals signal there) p.change q.change;
  signals = λ signal h. p.signals signal (q.signals signal h);
}

pub extended_through : (first second third : Circuit) → IsExtended first second → IsExtended second third → IsExtended first third
extended_through first second third p q = record {
  change = changed_through first second third (λ signal here there. p.signals signal here) p.change q.change;
  signals = λ signal h. q.signals signal (p.signals signal h);
}

-- other tables of the same signals
given_with : (old : Circuit) (tables : List Table) → outputs_of tables ≡ outputs_of old.tables → given (with_tables old tables) ≡ given old
unfolding given
given_with old tables same = ap (λ (names : List (List ℕ)). old.inputs ++ (latch_outputs old ++ names)) same

each_changed : (old : Circuit) (tables : List Table) → IsSound (with_tables old tables) → KeepsEach old (with_tables old tables) → IsChanged old (with_tables old tables)
each_changed old tables sound each = record { sound = sound; rest = refl; values = each_keeps old (with_tables old tables) each }

pub each_reduced : (old : Circuit) (tables : List Table) → IsSound (with_tables old tables) → outputs_of tables ≡ outputs_of old.tables
    → KeepsEach old (with_tables old tables) → IsReduced old (with_tables old tables)
each_reduced old tables sound same each = record {
  change = each_changed old tables sound each;
  signals = λ signal h. ap (λ (names : List (List ℕ)). has names signal) (sym (given_with old tables same)) ∙ h;
}

pub each_extended : (old : Circuit) (tables : List Table) → IsSound (with_tables old tables) → outputs_of tables ≡ outputs_of old.tables
    → KeepsEach old (with_tables old tables) → IsExtended old (with_tables old tables)
each_extended old tables sound same each = record {
  change = each_changed old tables sound each;
  signals = λ signal h. ap (λ (names : List (List ℕ)). has names signal) (given_with old tables same) ∙ h;
}

-- a table is removed, and no latch: the timing stays
timed : (latches : List Latch) (timing : Option Timing) → (latches ≡ [] → timing ≡ None) → timing_with latches timing ≡ timing
timed [] timing untimed = sym (untimed refl)
timed (latch ∷ latches) timing untimed = refl

with_parts : (circuit : Circuit) (tables : List Table) (latches : List Latch) (timing : Option Timing) → latches ≡ circuit.latches → timing ≡ circuit.timing
    → (record circuit { tables = tables; latches = latches; timing = timing }) ≡ with_tables circuit tables
with_parts circuit tables latches timing same timed_so =
    ap₂ (λ (left : List Latch) (clock : Option Timing). record circuit { tables = tables; latches = left; timing = clock }) same timed_so

kept_rest : (circuit : Circuit) (test : List ℕ → Bool) → IsSound circuit → AllByRecursion (λ (latch : Latch). test latch.output ≡ true) circuit.latches
    → with_kept circuit test ≡ with_tables circuit (tables_kept test circuit.tables)
unfolding with_kept
kept_rest circuit test sound all =
    let same : latches_kept test circuit.latches ≡ circuit.latches = latches_all test circuit.latches all in
    with_parts circuit (tables_kept test circuit.tables) (latches_kept test circuit.latches) (timing_with (latches_kept test circuit.latches) circuit.timing) same
    (ap (λ (latches : List Latch). timing_with latches circuit.timing) same ∙ timed circuit.latches circuit.timing sound.untimed_without_latches)

kept_tables : (circuit : Circuit) (test : List ℕ → Bool) → (with_kept circuit test).tables ≡ tables_kept test circuit.tables
unfolding with_kept
kept_tables circuit test = refl

-- the removal of tables that nothing needs
pub kept_reduced : (circuit : Circuit) (test : List ℕ → Bool) → IsSound circuit → IsClosed circuit test → AllByRecursion (λ (latch : Latch). test latch.output ≡ true) circuit.latches
    → IsReduced circuit (with_kept circuit test)
kept_reduced circuit test sound closed all = record {
  change = record {
    sound = sound_kept circuit test sound closed;
    rest = kept_rest circuit test sound all ∙ ap (with_tables circuit) (sym (kept_tables circuit test));
    values = kept_each circuit test sound.acyclic closed all;
  };
  signals = (kept_left circuit test sound.acyclic closed).signals;
}

pub removed_reduced : (circuit : Circuit) (name : List ℕ) → IsSound circuit → is_read circuit name ≡ false → is_root circuit name ≡ false
    → has (latch_outputs circuit) name ≡ false → IsReduced circuit (with_removed circuit name)
removed_reduced circuit name sound unread unasked none =
    kept_reduced circuit (is_other name) sound (unread_closed circuit name unread unasked) (others_latches circuit name none)

-- a table is added
added_rest : (circuit : Circuit) (new : Table) → with_added circuit new ≡ with_tables circuit (with_added circuit new).tables
unfolding with_added
added_rest circuit new = refl

pub added_extended : (circuit : Circuit) (new : Table) → IsSound circuit → is_word new.output ≡ true → has (given circuit) new.output ≡ false
    → has (control_of circuit.timing) new.output ≡ false → IsFitting circuit new → IsExtended circuit (with_added circuit new)
added_extended circuit new sound word undriven apart fits = record {
  change = record {
    sound = sound_added circuit new sound word undriven apart fits;
    rest = added_rest circuit new;
    values = added_keeps circuit new sound.acyclic undriven (taken_given circuit sound new.output undriven) (fitting_apart circuit new fits undriven);
  };
  signals = λ signal h. ap (λ (names : List (List ℕ)). has names signal) (given-added circuit new) ∙ has_front (given circuit) (new.output ∷ []) signal h;
}

-- steps that follow one another
pub reached_reduced : (Step : Circuit → Circuit → Type 0) → ((circuit new : Circuit) → IsSound circuit → Step circuit new → IsReduced circuit new)
    → (circuit new : Circuit) → IsSound circuit → Reaches Step circuit new → IsReduced circuit new
reached_reduced Step along circuit new sound reached =
    (reached_kept IsSound IsReduced Step reduced_itself reduced_through (λ x y good step. ((along x y good step).change.sound, along x y good step)) circuit new sound reached).1

pub reached_extended : (Step : Circuit → Circuit → Type 0) → ((circuit new : Circuit) → IsSound circuit → Step circuit new → IsExtended circuit new)
    → (circuit new : Circuit) → IsSound circuit → Reaches Step circuit new → IsExtended circuit new
reached_extended Step along circuit new sound reached =
    (reached_kept IsSound IsExtended Step extended_itself extended_through (λ x y good step. ((along x y good step).change.sound, along x y good step)) circuit new sound reached).1

pub end_refines : (Step : Circuit → Circuit → Type 0) (IsDone : Circuit → Type 0) → ((circuit new : Circuit) → IsSound circuit → Step circuit new → IsExtended circuit new)
    → (circuit new : Circuit) → IsSound circuit → HasEnd Step IsDone circuit new → Refines circuit new
end_refines Step IsDone along circuit new sound end = changed_refines circuit new sound (reached_extended Step along circuit new sound end.reached).change

pub chain_reduced : (step : Circuit → Option Circuit) → ((circuit new : Circuit) → IsSound circuit → step circuit ≡ Some new → IsReduced circuit new)
    → (circuit new : Circuit) → IsSound circuit → Chain step circuit new → IsReduced circuit new
chain_reduced step along circuit new sound chain = reached_reduced (λ x y. step x ≡ Some y) along circuit new sound chain.reached

pub chain_extended : (step : Circuit → Option Circuit) → ((circuit new : Circuit) → IsSound circuit → step circuit ≡ Some new → IsExtended circuit new)
    → (circuit new : Circuit) → IsSound circuit → Chain step circuit new → IsExtended circuit new
chain_extended step along circuit new sound chain = reached_extended (λ x y. step x ≡ Some y) along circuit new sound chain.reached
