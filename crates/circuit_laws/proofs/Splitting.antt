-- A circuit in which a table was split off others: a table is added, and the others are rewritten
-- over it.
use Rattle.std.proofs.Common.{◌≡◌, ℕ, Bool, true, false, Some, None, List, [], ◌∷◌, ◌++◌, map, bytes_eq, refl, sym, ap, ◌∙◌, subst, inl, inr, ◌⊎◌}
use Rattle.std.proofs.lemmas.Option.{none-some}
use Rattle.sis_base.specs.Written.{is_word}
use Rattle.circuit_model.specs.Names.{has, all_different}
use Rattle.circuit_model.specs.Values.{driver, driven_value}
use Rattle.circuit_model.specs.Soundness.{control_of, given, IsAcyclic, IsShaped, IsSound}
use Rattle.circuit_model.specs.declared.circuit.Table.{Table}
use Rattle.circuit_model.specs.declared.circuit.Circuit.{Circuit}
use Rattle.circuit_laws.specs.Edits.{with_tables, with_added}
use Rattle.circuit_laws.specs.Fitting.{IsFitting}
use Rattle.circuit_laws.specs.Valuations.{Obeys}
use Rattle.circuit_laws.proofs.Names.{name_not, has_front, has_back, has_head}
use Rattle.circuit_laws.proofs.Drivers.{driver_name, driver_all, driver_reads, driver_none}
use Rattle.circuit_laws.proofs.Paths.{driver_added_own}
use Rattle.circuit_laws.proofs.Tables.{given_not, obeying_mapped}
use Rattle.circuit_laws.proofs.Sound.{sound_settled, sound_added, given-added}
use Rattle.circuit_laws.specs.Changes.{IsExtended}
use Rattle.circuit_laws.proofs.Changes.{added_extended, each_extended, extended_through}
use Rattle.circuit_laws.proofs.Mapped.{IsTurn, outputs_different, live_reads, outputs-mapped, sound_mapped}
use Rattle.circuit_laws.specs.Splits.{IsOver, IsSplit, with_split}
use Rattle.circuit_laws.proofs.Heights.{MayRead, reading_acyclic}
use Rattle.circuit_laws.proofs.Among.{turned_among, among_either, among_output, among_added, front_same}

-- what drives a signal becomes a table over the new one
pub driver_over : (circuit : Circuit) (new : Table) (turn : Table → Table) → IsSplit circuit new turn → (signal : List ℕ) (old : Table) → driver circuit.tables signal ≡ Some old
    → IsOver new old (turn old)
driver_over circuit new turn split signal old at = driver_all (λ (table : Table). IsOver new table (turn table)) circuit.tables split.tables signal old at

-- nothing drives the new signal, and then the new table does
pub new_undriven : (circuit : Circuit) (new : Table) → has (given circuit) new.output ≡ false → driver circuit.tables new.output ≡ None
new_undriven circuit new undriven = driver_none circuit.tables new.output (given_not circuit new.output undriven).1

pub new_driver : (circuit : Circuit) (new : Table) → has (given circuit) new.output ≡ false → driver (circuit.tables ++ new ∷ []) new.output ≡ Some new
new_driver circuit new undriven = driver_added_own circuit.tables new (given_not circuit new.output undriven).1

-- what was driven is driven with the new table too, and so is its signal
pub given_more : (circuit : Circuit) (new : Table) (name : List ℕ) → (has (given circuit) name ≡ true) ⊎ (name ≡ new.output) → has (given (with_added circuit new)) name ≡ true
given_more circuit new name (inl before) = ap (λ (names : List (List ℕ)). has names name) (given-added circuit new) ∙ has_front (given circuit) (new.output ∷ []) name before
given_more circuit new name (inr own) =
    ap (λ (names : List (List ℕ)). has names name) (given-added circuit new)
    ∙ subst (λ (x : List ℕ). has (given circuit ++ new.output ∷ []) x ≡ true) (sym own) (has_back (given circuit) (new.output ∷ []) new.output (has_head new.output []))

-- the turn of the circuit's own tables is one that keeps a circuit sound
pub split_turn : (circuit : Circuit) (new : Table) (turn : Table → Table) → IsSound circuit → IsSplit circuit new turn → IsTurn (with_added circuit new) (turned_among circuit.tables turn)
split_turn circuit new turn sound split = record {
  keeps = among_output circuit.tables turn split.outputs;
  once = λ table different.
      among_either (λ (made : Table). all_different made.inputs ≡ true) circuit.tables turn table different
      (λ old at. (driver_over circuit new turn split table.output old at).once
      (driver_all (λ (t : Table). all_different t.inputs ≡ true) circuit.tables sound.table_inputs_once table.output old at));
  shaped = λ table shaped.
      among_either IsShaped circuit.tables turn table shaped
      (λ old at. (driver_over circuit new turn split table.output old at).shaped (driver_all IsShaped circuit.tables sound.shaped table.output old at));
  reads = λ table name.
      among_either (λ (made : Table). has made.inputs name ≡ true → (has table.inputs name ≡ true) ⊎ (has (given (with_added circuit new)) name ≡ true)) circuit.tables turn table
      (λ own. inl own)
      (λ old at h. elim ((driver_over circuit new turn split table.output old at).reads name h) as (λ _. (has table.inputs name ≡ true) ⊎ (has (given (with_added circuit new)) name ≡ true)) [
        | inl before ↦ inr (given_more circuit new name (inl (live_reads circuit sound name (driver_reads circuit.tables table.output old name at before))))
        | inr over ↦ inr (given_more circuit new name (inr over.0))
      ]);
}

-- tables form no cycle where the others are turned
pub split_acyclic : (circuit : Circuit) (new : Table) (turn : Table → Table) → has (given circuit) new.output ≡ false → IsSplit circuit new turn
    → IsAcyclic (circuit.tables ++ new ∷ []) → IsAcyclic (map (turned_among circuit.tables turn) (circuit.tables ++ new ∷ []))
split_acyclic circuit new turn undriven split acyclic =
    reading_acyclic (turned_among circuit.tables turn) (among_output circuit.tables turn split.outputs) (circuit.tables ++ new ∷ []) new.output new acyclic
    (new_driver circuit new undriven)
    (λ signal table input at.
    among_either (λ (made : Table). has made.inputs input ≡ true → MayRead new.output new signal table input) circuit.tables turn table
    (λ own. inl own)
    (λ old front h. allowed signal table old input at front ((driver_over circuit new turn split table.output old front).reads input h)))
  where
    allowed : (signal : List ℕ) (table old : Table) (input : List ℕ) → driver (circuit.tables ++ new ∷ []) signal ≡ Some table → driver circuit.tables table.output ≡ Some old
        → (has old.inputs input ≡ true) ⊎ ((input ≡ new.output) × ((name : List ℕ) → has new.inputs name ≡ true → has old.inputs name ≡ true))
        → MayRead new.output new signal table input
    allowed signal table old input at front (inl before) = inl (subst (λ (t : Table). has t.inputs input ≡ true) (sym (front_same circuit.tables (new ∷ []) signal table old at front)) before)
    allowed signal table old input at front (inr (own, within)) =
        let same : table ≡ old = front_same circuit.tables (new ∷ []) signal table old at front in
        let other : bytes_eq signal new.output ≡ false =
        name_not signal new.output (λ e.
        none-some old (sym (new_undriven circuit new undriven)
        ∙ ap (driver circuit.tables) (sym e ∙ sym (driver_name (circuit.tables ++ new ∷ []) signal table at)) ∙ front)) in
        inr (own, other, λ name among. subst (λ (t : Table). has t.inputs name ≡ true) (sym same) (within name among))

-- each turned table has its value where all tables are obeyed, the new one too
pub split_value : (circuit : Circuit) (new : Table) (turn : Table → Table) → has (given circuit) new.output ≡ false → IsSplit circuit new turn
    → (value : List ℕ → Bool) → Obeys (circuit.tables ++ new ∷ []) value → (signal : List ℕ) (table : Table) → driver (circuit.tables ++ new ∷ []) signal ≡ Some table
    → driven_value (Some (turned_among circuit.tables turn table)) value ≡ driven_value (Some table) value
split_value circuit new turn undriven split value obeys signal table at =
    among_either (λ (made : Table). driven_value (Some made) value ≡ driven_value (Some table) value) circuit.tables turn table refl
    (λ old front.
    (driver_over circuit new turn split table.output old front).value value (obeys new.output new (new_driver circuit new undriven))
    ∙ ap (λ (t : Table). driven_value (Some t) value) (sym (front_same circuit.tables (new ∷ []) signal table old at front)))

-- if the new table is there, rewriting the others keeps signals and values
pub turned_extended : (circuit : Circuit) (new : Table) (turn : Table → Table) → IsSound circuit → has (given circuit) new.output ≡ false → IsSplit circuit new turn
    → IsSound (with_added circuit new) → IsExtended (with_added circuit new) (with_tables (with_added circuit new) (map (turned_among circuit.tables turn) (circuit.tables ++ new ∷ [])))
unfolding with_added
turned_extended circuit new turn sound undriven split more =
    let keeps = among_output circuit.tables turn split.outputs in
    let acyclic = split_acyclic circuit new turn undriven split more.acyclic in
    each_extended (with_added circuit new) (map (turned_among circuit.tables turn) (circuit.tables ++ new ∷ []))
    (sound_mapped (with_added circuit new) (turned_among circuit.tables turn) more (split_turn circuit new turn sound split) acyclic)
    (outputs-mapped (turned_among circuit.tables turn) keeps (circuit.tables ++ new ∷ []))
    (obeying_mapped (with_added circuit new) (turned_among circuit.tables turn) (sound_settled (with_added circuit new) more) keeps acyclic
    (split_value circuit new turn undriven split))

pub split_tables : (circuit : Circuit) (new : Table) (turn : Table → Table) → IsSound circuit → has (given circuit) new.output ≡ false
    → with_tables (with_added circuit new) (map (turned_among circuit.tables turn) (circuit.tables ++ new ∷ [])) ≡ with_split circuit turn new
unfolding with_added
split_tables circuit new turn sound undriven =
    ap (λ (tables : List Table). with_tables circuit tables)
    (among_added circuit.tables turn new (outputs_different circuit sound) (new_undriven circuit new undriven))

pub split_extended : (circuit : Circuit) (new : Table) (turn : Table → Table) → IsSound circuit → is_word new.output ≡ true → has (given circuit) new.output ≡ false
    → has (control_of circuit.timing) new.output ≡ false → IsFitting circuit new → IsSplit circuit new turn → IsExtended circuit (with_split circuit turn new)
split_extended circuit new turn sound word undriven free fits split =
    subst (IsExtended circuit) (split_tables circuit new turn sound undriven)
    (extended_through circuit (with_added circuit new) (with_tables (with_added circuit new) (map (turned_among circuit.tables turn) (circuit.tables ++ new ∷ [])))
    (added_extended circuit new sound word undriven free fits)
    (turned_extended circuit new turn sound undriven split (sound_added circuit new sound word undriven free fits)))
