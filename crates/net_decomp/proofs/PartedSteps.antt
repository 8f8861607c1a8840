-- A table is decomposed: the circuit stays sound, no signal is removed, and each keeps its value;
-- so does each sequence of steps.
use Rattle.std.proofs.Common.{◌≡◌, ℕ, ◌+◌, Bool, true, false, Option, Some, List, ◌++◌, map, length, bytes_eq, refl, sym, ap, ap₂, ◌∙◌, subst, inl, inr, ◌⊎◌}
use Rattle.std.specs.List.{AllByRecursion}
use Rattle.std.proofs.lemmas.List.{length-append, length-map, map-append}
use Rattle.sis_base.specs.Rows.{some_matches, phase_value, value_by_phase, HasWidth}
use Rattle.circuit_model.specs.Names.{has, all_different}
use Rattle.circuit_model.specs.Runs.{latch_outputs, Refines}
use Rattle.circuit_model.specs.Values.{driver, driven_value, table_value}
use Rattle.circuit_model.specs.Soundness.{outputs_of, given, Leads, IsAcyclic, IsShaped, IsSound}
use Rattle.circuit_model.specs.declared.circuit.Table.{Table}
use Rattle.circuit_model.specs.declared.circuit.Circuit.{Circuit}
use Rattle.circuit_laws.specs.Edits.{replaced, with_replaced}
use Rattle.circuit_laws.specs.Fitting.{IsFitting}
use Rattle.circuit_laws.specs.Valuations.{Obeys}
use Rattle.circuit_laws.proofs.Names.{all_has, all_from_has, has_back, has_either}
use Rattle.circuit_laws.proofs.Drivers.{driver_all, driver_reads, driver_output, outputs-replaced}
use Rattle.circuit_laws.proofs.Ranks.{leads_one}
use Rattle.circuit_laws.proofs.Paths.{replaced_acyclic, reached_apart, beside_apart}
use Rattle.circuit_laws.proofs.Sound.{sound_settled, sound_replaced}
use Rattle.circuit_laws.proofs.Tables.{obeying_turned}
use Rattle.circuit_laws.specs.Changes.{IsExtended}
use Rattle.circuit_laws.proofs.Changes.{each_extended, extended_through, reached_extended as steps_extended, end_refines}
use Rattle.circuit_laws.proofs.Mapped.{outputs_different, live_reads}
use Rattle.net_core.specs.Tables.{characters_of, HasCharacters}
use Rattle.net_core.proofs.Rows.{all_places_back, width_of_characters}
use Rattle.circuit_tables.specs.Tidy.{is_tidy}
use Rattle.circuit_tables.proofs.Tidied.{tidied_value, tidied_output, tidied_reads, tidied_once, tidied_shaped, tidied_tidy}
use Rattle.net_decomp.specs.Partings.{Parting, rows_of, part_table, parted_table}
use Rattle.net_decomp.specs.Decomposed.{IsNext, IsStep, IsReached, AllDone, IsDecomposed}
use Rattle.net_decomp.specs.declared.rule.Rule.{Rule}
use Rattle.net_decomp.proofs.Values.{KeepsRows, due_keeps}
use Rattle.net_decomp.proofs.Adding.{driver_among, characters_wide, part_reads, AreFound, HoldsParts, parts_hold, found_many, found_at, found_bits}

-- a table over more inputs, not yet in normal form
abbrev pub over_names : Table → List (List ℕ) → List (List (Option Bool)) → Table
over_names table names rows = record table { inputs = table.inputs ++ names; rows = map characters_of rows }

pub parted_output : (table : Table) (names : List (List ℕ)) (rows : List (List (Option Bool))) → (parted_table table names rows).output ≡ table.output
unfolding parted_table
parted_output table names rows = tidied_output (over_names table names rows)

pub parted_reads : (table : Table) (names : List (List ℕ)) (rows : List (List (Option Bool))) (input : List ℕ) → has (parted_table table names rows).inputs input ≡ true
    → (has table.inputs input ≡ true) ⊎ (has names input ≡ true)
unfolding parted_table
parted_reads table names rows input h = has_either table.inputs names input (tidied_reads (over_names table names rows) input h)

pub parted_once : (table : Table) (names : List (List ℕ)) (rows : List (List (Option Bool))) → all_different (parted_table table names rows).inputs ≡ true
unfolding parted_table
parted_once table names rows = tidied_once (over_names table names rows)

pub parted_wide : (table : Table) (names : List (List ℕ)) (rows : List (List (Option Bool))) → HasWidth (length table.inputs + length names) rows
    → HasCharacters (length (table.inputs ++ names)) (map characters_of rows)
parted_wide table names rows wide =
    characters_wide (length (table.inputs ++ names)) rows (subst (λ (n : ℕ). HasWidth n rows) (sym (length-append table.inputs names)) wide)

pub parted_shaped : (table : Table) (names : List (List ℕ)) (rows : List (List (Option Bool))) → HasWidth (length table.inputs + length names) rows → IsShaped (parted_table table names rows)
unfolding parted_table
parted_shaped table names rows wide = tidied_shaped (over_names table names rows) (parted_wide table names rows wide)

pub parted_tidy : (table : Table) (names : List (List ℕ)) (rows : List (List (Option Bool))) → HasWidth (length table.inputs + length names) rows → is_tidy (parted_table table names rows) ≡ true
unfolding parted_table
parted_tidy table names rows wide = tidied_tidy (over_names table names rows) (parted_wide table names rows wide)

pub parted_table_value : (table : Table) (names : List (List ℕ)) (rows : List (List (Option Bool))) (value : List ℕ → Bool)
    → driven_value (Some (parted_table table names rows)) value ≡ phase_value table.phase (some_matches rows (map value table.inputs ++ map value names))
unfolding parted_table table_value value_by_phase
parted_table_value table names rows value =
    tidied_value (over_names table names rows) value
    ∙ ap₂ (λ (made : List (List (Option Bool))) (point : List Bool). phase_value table.phase (some_matches made point)) (all_places_back rows) (map-append value table.inputs names)

pub own_value : (table : Table) (value : List ℕ → Bool) → driven_value (Some table) value ≡ phase_value table.phase (some_matches (rows_of table) (map value table.inputs))
unfolding table_value value_by_phase
own_value table value = refl

-- a table of a sound circuit that is rewritten over the tables of its parts
pub record IsOverParts (circuit : Circuit) (table : Table) (parting : Parting) (names : List (List ℕ)) : Type 0 where
  pub sound : IsSound circuit
  pub at : driver circuit.tables table.output ≡ Some table
  pub found : AreFound circuit.tables table parting.parts names
  pub apart : AllByRecursion (λ name. bytes_eq name table.output ≡ false) names
  pub keeps : KeepsRows (length table.inputs) (rows_of table) parting

module _ (circuit : Circuit) (table : Table) (parting : Parting) (names : List (List ℕ)) (over : IsOverParts circuit table parting names) where
  abbrev made : Table
  made = parted_table table names parting.rows

  parts_wide : HasWidth (length table.inputs + length names) parting.rows
  parts_wide = subst (λ (n : ℕ). HasWidth (length table.inputs + n) parting.rows) (sym (found_many circuit.tables table parting.parts names over.found)) over.keeps.wide

  pub parted_keeps_value : (value : List ℕ → Bool) → Obeys circuit.tables value → driven_value (Some made) value ≡ driven_value (Some table) value
  parted_keeps_value value obeys =
      parted_table_value table names parting.rows value
      ∙ (ap (λ (bits : List Bool). phase_value table.phase (some_matches parting.rows (map value table.inputs ++ bits))) (found_bits circuit.tables table parting.parts names value over.found obeys)
      ∙ (ap (phase_value table.phase) (over.keeps.value (map value table.inputs) (length-map table.inputs value)) ∙ sym (own_value table value)))

  not_back : (input : List ℕ) (steps : ℕ) → (has table.inputs input ≡ true) ⊎ (has names input ≡ true) → Leads circuit.tables steps input table.output → ⊥
  not_back input steps (inl own) way = reached_apart circuit.tables over.sound.acyclic table.output input 0 (leads_one circuit.tables table.output input table over.at own) steps way
  not_back input steps (inr added) way =
      let (part, here) = found_at circuit.tables table parting.parts names over.found input added in
      beside_apart circuit.tables over.sound.acyclic table.output input (part_table table part input)
      (all_has (λ name. bytes_eq name table.output ≡ false) names over.apart input added) here
      (λ next reads. (0, leads_one circuit.tables table.output next table over.at (part_reads table part input next reads))) steps way

  pub parted_acyclic : IsAcyclic (replaced circuit.tables made)
  parted_acyclic =
      replaced_acyclic circuit.tables made over.sound.acyclic
      (λ input steps reads way.
      not_back input steps (parted_reads table names parting.rows input reads) (subst (λ (name : List ℕ). Leads circuit.tables steps input name) (parted_output table names parting.rows) way))

  parted_live : (input : List ℕ) → (has table.inputs input ≡ true) ⊎ (has names input ≡ true) → has (given circuit) input ≡ true
  unfolding given
  parted_live input (inl own) = live_reads circuit over.sound input (driver_reads circuit.tables table.output table input over.at own)
  parted_live input (inr added) =
      let (part, here) = found_at circuit.tables table parting.parts names over.found input added in
      has_back circuit.inputs (latch_outputs circuit ++ outputs_of circuit.tables) input
      (has_back (latch_outputs circuit) (outputs_of circuit.tables) input (driver_output circuit.tables input (part_table table part input) here))

  parted_fits : IsFitting circuit made
  parted_fits = record {
    live = all_from_has (λ input. has (given circuit) input ≡ true) made.inputs (λ input among. parted_live input (parted_reads table names parting.rows input among));
    once = parted_once table names parting.rows;
    shaped = parted_shaped table names parting.rows parts_wide;
  }

  parted_at : driver circuit.tables made.output ≡ Some table
  parted_at = ap (driver circuit.tables) (parted_output table names parting.rows) ∙ over.at

  pub parted_sound : IsSound (with_replaced circuit made)
  parted_sound = sound_replaced circuit made over.sound (driver_output circuit.tables made.output table parted_at) parted_fits parted_acyclic

  pub parted_extended : IsExtended circuit (with_replaced circuit made)
  unfolding with_replaced
  parted_extended =
      each_extended circuit (replaced circuit.tables made) parted_sound (outputs-replaced circuit.tables made)
      (obeying_turned circuit table made (sound_settled circuit over.sound) parted_at parted_acyclic parted_keeps_value)

-- the table that is next
pub next_at : (rule : Rule) (circuit : Circuit) (table : Table) (parting : Parting) → IsSound circuit → IsNext rule circuit table parting → driver circuit.tables table.output ≡ Some table
next_at rule circuit table parting sound next =
    subst (λ (tables : List Table). driver tables table.output ≡ Some table) (sym next.is)
    (driver_among next.before next.after table (subst (λ (tables : List Table). all_different (outputs_of tables) ≡ true) next.is (outputs_different circuit sound)))

pub next_wide : (rule : Rule) (circuit : Circuit) (table : Table) (parting : Parting) → IsSound circuit → IsNext rule circuit table parting → HasWidth (length table.inputs) (rows_of table)
next_wide rule circuit table parting sound next =
    width_of_characters (length table.inputs) table.rows (driver_all IsShaped circuit.tables sound.shaped table.output table (next_at rule circuit table parting sound next)).0

pub next_keeps : (rule : Rule) (circuit : Circuit) (table : Table) (parting : Parting) → IsSound circuit → IsNext rule circuit table parting → KeepsRows (length table.inputs) (rows_of table) parting
next_keeps rule circuit table parting sound next = due_keeps rule table parting (next_wide rule circuit table parting sound next) next.fails

-- a step, and steps that follow one another
pub step_extended : (rule : Rule) (circuit new : Circuit) → IsSound circuit → IsStep rule circuit new → IsExtended circuit new
step_extended rule circuit new sound step =
    let at = next_at rule circuit step.table step.parting sound step.next in
    let keeps = next_keeps rule circuit step.table step.parting sound step.next in
    let held : HoldsParts step.table step.parting.parts step.parted.names circuit step.parted.between =
    parts_hold step.table step.parting.parts circuit step.parted.names step.parted.between sound at keeps.parts step.parted.added in
    let over : IsOverParts step.parted.between step.table step.parting step.parted.names = record {
      sound = held.extended.change.sound;
      at = held.kept step.table.output step.table at;
      found = held.found;
      apart = held.apart;
      keeps = keeps;
    } in
    subst (IsExtended circuit) (sym step.parted.made)
    (extended_through circuit step.parted.between (with_replaced step.parted.between (parted_table step.table step.parted.names step.parting.rows)) held.extended
    (parted_extended step.parted.between step.table step.parting step.parted.names over))

pub reached_extended : (rule : Rule) (circuit new : Circuit) → IsSound circuit → IsReached rule circuit new → IsExtended circuit new
reached_extended rule = steps_extended (IsStep rule) (step_extended rule)

pub decomposed_refines : (rule : Rule) (circuit new : Circuit) → IsSound circuit → IsDecomposed rule circuit new → Refines circuit new
decomposed_refines rule = end_refines (IsStep rule) (AllDone rule) (step_extended rule)
