-- A table is divided by another one: the circuit stays sound, no signal is removed, and each keeps
-- its value; so does each sequence of steps.
use Rattle.std.proofs.Common.{◌≡◌, ℕ, Bool, true, false, ◌||◌, cond, Some, List, [], ◌∷◌, ◌++◌, map, refl, sym, ap, ap₂, ◌∙◌, subst, inl, inr}
use Rattle.std.proofs.lemmas.Bool.{false≢true, and_from}
use Rattle.sis_base.specs.Rows.{agrees, some_matches, phase_value, value_by_phase}
use Rattle.circuit_model.specs.Names.{has, all_different}
use Rattle.circuit_model.specs.Runs.{latch_outputs, Refines}
use Rattle.circuit_model.specs.Values.{driver, driven_value, table_value}
use Rattle.circuit_model.specs.Soundness.{outputs_of, given, Leads, IsAcyclic, IsShaped, IsSound}
use Rattle.circuit_model.specs.declared.circuit.Tri.{Tri}
use Rattle.circuit_model.specs.declared.circuit.Table.{Table}
use Rattle.circuit_model.specs.declared.circuit.Circuit.{Circuit}
use Rattle.circuit_laws.specs.Edits.{replaced, with_replaced}
use Rattle.circuit_laws.specs.Fitting.{IsFitting}
use Rattle.circuit_laws.specs.Valuations.{Obeys}
use Rattle.circuit_laws.proofs.Names.{name_is, name_not, all_from_has, has_back, different_head, different_tail}
use Rattle.circuit_laws.proofs.Drivers.{driver_all, driver_reads, driver_output, outputs-replaced}
use Rattle.circuit_laws.proofs.Ranks.{leads_one}
use Rattle.circuit_laws.proofs.Paths.{replaced_acyclic, reached_apart}
use Rattle.circuit_laws.proofs.Sound.{sound_settled, sound_replaced}
use Rattle.circuit_laws.proofs.Tables.{obeying_turned}
use Rattle.circuit_laws.specs.Changes.{IsExtended}
use Rattle.circuit_laws.proofs.Changes.{each_extended, reached_extended as steps_extended, end_refines}
use Rattle.circuit_laws.proofs.Mapped.{outputs_different, live_reads}
use Rattle.alg_div.specs.Cubes.{Has}
use Rattle.cover_names.specs.Cubes.{cube_over, cover_value}
use Rattle.cover_names.proofs.Back.{all_apart}
use Rattle.cover_names.proofs.Names.{over_different}
use Rattle.cover_names.proofs.Worth.{cube_over_worth}
use Rattle.net_core.specs.Tables.{places_of}
use Rattle.alg_tables.proofs.CoverTables.{divided_reads, divided_fits}
use Rattle.alg_tables.proofs.Divisions.{divided_value, divided_output}
use Rattle.net_resub.specs.Resubbed.{row_cubes, resubbed, with_resubbed, IsCandidate, IsStep, IsReached, IsDone, IsResubbed}

-- ---- the cubes of a table's rows

cubes_worth : (value : List ℕ → Bool) (names : List (List ℕ)) (rows : List (List Tri))
    → cover_value value (map (λ row. cube_over names (places_of row)) rows) ≡ some_matches (map places_of rows) (map value names)
unfolding some_matches
cubes_worth value names [] = refl
cubes_worth value names (row ∷ rows) = ap₂ (λ (a b : Bool). a || b) (sym (cube_over_worth value names (places_of row))) (cubes_worth value names rows)

cubes_apart : (names : List (List ℕ)) (rows : List (List Tri)) → all_different names ≡ true → all_apart (map (λ row. cube_over names (places_of row)) rows) ≡ true
cubes_apart names [] once = refl
cubes_apart names (row ∷ rows) once = and_from _ _ (over_different names (places_of row) once) (cubes_apart names rows once)

phase_agrees : (phase matched : Bool) → agrees (Some phase) (phase_value phase matched) ≡ matched
phase_agrees true matched = refl
phase_agrees false true = refl
phase_agrees false false = refl

-- if a signal has its table's value, its literal in the table's phase has the value of the cubes
literal_worth : (table : Table) (value : List ℕ → Bool) → value table.output ≡ driven_value (Some table) value → agrees (Some table.phase) (value table.output) ≡ cover_value value (row_cubes table)
unfolding table_value value_by_phase
literal_worth table value stands =
    ap (agrees (Some table.phase)) stands
    ∙ phase_agrees table.phase (some_matches (map places_of table.rows) (map value table.inputs))
    ∙ sym (cubes_worth value table.inputs table.rows)

-- ---- the tables of a circuit

-- if tables drive different signals each drives its own
member_drives : (tables : List Table) (table : Table) → all_different (outputs_of tables) ≡ true → Has table tables → driver tables table.output ≡ Some table
unfolding driver
member_drives [] table different m = absurd m
member_drives (first ∷ tables) table different (inl e) =
    ap (λ (b : Bool). cond b (Some first) (driver tables table.output)) (name_is table.output first.output (ap (λ (t : Table). t.output) e)) ∙ ap (λ (t : Table). Some t) (sym e)
member_drives (first ∷ tables) table different (inr m) =
    let own : driver tables table.output ≡ Some table = member_drives tables table (different_tail first.output (outputs_of tables) different) m in
    ap (λ (b : Bool). cond b (Some first) (driver tables table.output))
    (name_not table.output first.output (λ same.
    false≢true (sym (different_head first.output (outputs_of tables) different)
    ∙ subst (λ (name : List ℕ). has (outputs_of tables) name ≡ true) same (driver_output tables table.output table own))))
    ∙ own

module _ (circuit : Circuit) (table : Table) (sound : IsSound circuit) (stands : Has table circuit.tables) where
  standing_at : driver circuit.tables table.output ≡ Some table
  standing_at = member_drives circuit.tables table (outputs_different circuit sound) stands

  standing_fits : IsFitting circuit table
  standing_fits = record {
    live = all_from_has (λ input. has (given circuit) input ≡ true) table.inputs
        (λ input reads. live_reads circuit sound input (driver_reads circuit.tables table.output table input standing_at reads));
    once = driver_all (λ (t : Table). all_different t.inputs ≡ true) circuit.tables sound.table_inputs_once table.output table standing_at;
    shaped = driver_all IsShaped circuit.tables sound.shaped table.output table standing_at;
  }

  standing_given : has (given circuit) table.output ≡ true
  unfolding given
  standing_given =
      has_back circuit.inputs (latch_outputs circuit ++ outputs_of circuit.tables) table.output
      (has_back (latch_outputs circuit) (outputs_of circuit.tables) table.output (driver_output circuit.tables table.output table standing_at))

-- ---- a division

module _ (circuit : Circuit) (by table : Table) (sound : IsSound circuit) (may : IsCandidate circuit by table) where
  at : driver circuit.tables table.output ≡ Some table
  at = standing_at circuit table sound may.stands

  output_stays : (resubbed by table).output ≡ table.output
  output_stays = divided_output by.output by.phase (row_cubes by) table

  new_at : driver circuit.tables (resubbed by table).output ≡ Some table
  new_at = ap (driver circuit.tables) output_stays ∙ at

  value_stays : (value : List ℕ → Bool) → Obeys circuit.tables value → driven_value (Some (resubbed by table)) value ≡ driven_value (Some table) value
  value_stays value obeys =
      divided_value by.output by.phase (row_cubes by) table value (standing_fits circuit table sound may.stands).shaped.0
      (cubes_apart by.inputs by.rows (standing_fits circuit by sound may.by_stands).once)
      (literal_worth by value (obeys by.output by (standing_at circuit by sound may.by_stands)))

  not_back : (input : List ℕ) (steps : ℕ) → has (resubbed by table).inputs input ≡ true → Leads circuit.tables steps input table.output → ⊥
  not_back input steps reads way =
      elim (divided_reads by.output by.phase (row_cubes by) table input reads) as (λ _. ⊥) [
        | inl old ↦ reached_apart circuit.tables sound.acyclic table.output input 0 (leads_one circuit.tables table.output input table at old) steps way
        | inr new ↦ may.apart steps (subst (λ (name : List ℕ). Leads circuit.tables steps name table.output) new.0 way)
      ]

  new_acyclic : IsAcyclic (replaced circuit.tables (resubbed by table))
  new_acyclic =
      replaced_acyclic circuit.tables (resubbed by table) sound.acyclic
      (λ input steps reads way. not_back input steps reads (subst (λ (name : List ℕ). Leads circuit.tables steps input name) output_stays way))

  new_sound : IsSound (with_resubbed circuit by table)
  new_sound =
      sound_replaced circuit (resubbed by table) sound (driver_output circuit.tables (resubbed by table).output table new_at)
      (divided_fits circuit by.output by.phase (row_cubes by) table (standing_fits circuit table sound may.stands) (standing_given circuit by sound may.by_stands))
      new_acyclic

  pub division_extended : IsExtended circuit (with_resubbed circuit by table)
  unfolding with_replaced
  division_extended =
      each_extended circuit (replaced circuit.tables (resubbed by table)) new_sound (outputs-replaced circuit.tables (resubbed by table))
      (obeying_turned circuit table (resubbed by table) (sound_settled circuit sound) new_at new_acyclic value_stays)

-- ---- a step, and steps that follow one another

pub step_extended : (circuit new : Circuit) → IsSound circuit → IsStep circuit new → IsExtended circuit new
step_extended circuit new sound step = subst (IsExtended circuit) (sym step.made) (division_extended circuit step.by step.table sound step.best.may)

pub reached_extended : (circuit new : Circuit) → IsSound circuit → IsReached circuit new → IsExtended circuit new
reached_extended = steps_extended IsStep step_extended

pub resubbed_refines : (circuit new : Circuit) → IsSound circuit → IsResubbed circuit new → Refines circuit new
resubbed_refines = end_refines IsStep IsDone step_extended
