-- Tables give place to their minima, one after the other: the circuit stays sound, and each signal keeps its value.
use Rattle.std.proofs.Common.{◌≡◌, ℕ, Bool, true, Option, Some, None, List, [], ◌∷◌, fold, refl, ap, ◌∙◌}
use Rattle.std.specs.Option.{option_map_or}
use Rattle.circuit_model.specs.Names.{has}
use Rattle.circuit_model.specs.Runs.{Refines}
use Rattle.circuit_model.specs.Soundness.{given, IsAcyclic, IsShaped, IsSound}
use Rattle.circuit_model.specs.Values.{driver, driven_value}
use Rattle.circuit_model.specs.declared.circuit.Table.{Table}
use Rattle.circuit_model.specs.declared.circuit.Circuit.{Circuit}
use Rattle.circuit_laws.specs.Edits.{replaced, with_replaced}
use Rattle.circuit_laws.specs.Fitting.{IsFitting}
use Rattle.circuit_laws.specs.Same.{KeepsEach}
use Rattle.circuit_laws.specs.Valuations.{Obeys}
use Rattle.circuit_laws.proofs.Drivers.{driver_name, driver_all, driver_reads, driver_output, outputs-replaced}
use Rattle.circuit_laws.proofs.Names.{all_from_has}
use Rattle.circuit_laws.proofs.Paths.{narrowed_acyclic}
use Rattle.circuit_laws.proofs.Sound.{sound_settled, sound_replaced}
use Rattle.circuit_laws.proofs.Tables.{obeying_turned, each_itself, each_through}
use Rattle.circuit_laws.specs.Changes.{IsReduced, IsExtended}
use Rattle.circuit_laws.proofs.Changes.{each_reduced, each_extended, reduced_itself, extended_itself, reduced_through, extended_through, changed_refines}
use Rattle.circuit_laws.proofs.Mapped.{live_reads}
use Rattle.circuit_order.specs.Order.{order_of}
use Rattle.sdc_simplify.specs.Local.{is_local}
use Rattle.sdc_simplify.specs.Minimized.{minimized}
use Rattle.sdc_simplify.specs.Simplified.{with_minimum, simplified}
use Rattle.sdc_simplify.proofs.Local.{local_nowhere}
use Rattle.sdc_simplify.proofs.Minimal.{minimized_value, minimized_output, minimized_reads, minimized_once, minimized_shaped}

-- a table may stand where that of its signal stood: it reads nothing else, it fits, and it has the old one's value wherever the
-- equations of all tables hold
record Narrows (circuit : Circuit) (old new : Table) : Type 0 where
  at : driver circuit.tables new.output ≡ Some old
  reads : (name : List ℕ) → has new.inputs name ≡ true → has old.inputs name ≡ true
  fits : IsFitting circuit new
  value : (value : List ℕ → Bool) → Obeys circuit.tables value → driven_value (Some new) value ≡ driven_value (Some old) value

narrows_acyclic : (circuit : Circuit) (old new : Table) → IsSound circuit → Narrows circuit old new → IsAcyclic (replaced circuit.tables new)
narrows_acyclic circuit old new sound narrow = narrowed_acyclic circuit.tables old new sound.acyclic narrow.at narrow.reads

narrows_sound : (circuit : Circuit) (old new : Table) → IsSound circuit → Narrows circuit old new → IsSound (with_replaced circuit new)
narrows_sound circuit old new sound narrow =
    sound_replaced circuit new sound (driver_output circuit.tables new.output old narrow.at) narrow.fits (narrows_acyclic circuit old new sound narrow)

narrows_each : (circuit : Circuit) (old new : Table) → IsSound circuit → Narrows circuit old new → KeepsEach circuit (with_replaced circuit new)
narrows_each circuit old new sound narrow = obeying_turned circuit old new (sound_settled circuit sound) narrow.at (narrows_acyclic circuit old new sound narrow) narrow.value

narrows_reduced : (circuit : Circuit) (old new : Table) → IsSound circuit → Narrows circuit old new → IsReduced circuit (with_replaced circuit new)
unfolding with_replaced
narrows_reduced circuit old new sound narrow =
    each_reduced circuit (replaced circuit.tables new) (narrows_sound circuit old new sound narrow) (outputs-replaced circuit.tables new) (narrows_each circuit old new sound narrow)

narrows_extended : (circuit : Circuit) (old new : Table) → IsSound circuit → Narrows circuit old new → IsExtended circuit (with_replaced circuit new)
unfolding with_replaced
narrows_extended circuit old new sound narrow =
    each_extended circuit (replaced circuit.tables new) (narrows_sound circuit old new sound narrow) (outputs-replaced circuit.tables new) (narrows_each circuit old new sound narrow)

-- the minimum of the table of a signal
minimum_narrows : (circuit : Circuit) (name : List ℕ) (table : Table) → IsSound circuit → driver circuit.tables name ≡ Some table
    → Narrows circuit table (minimized table (is_local circuit table))
minimum_narrows circuit name table sound at = record {
  at = ap (driver circuit.tables) (minimized_output table (is_local circuit table) ∙ driver_name circuit.tables name table at) ∙ at;
  reads = minimized_reads table (is_local circuit table);
  fits = record {
    live = all_from_has (λ input. has (given circuit) input ≡ true) (minimized table (is_local circuit table)).inputs
        (λ input among. live_reads circuit sound input (driver_reads circuit.tables name table input at (minimized_reads table (is_local circuit table) input among)));
    once = minimized_once table (is_local circuit table);
    shaped = minimized_shaped table (is_local circuit table) shaped.0;
  };
  value = λ value obeys. minimized_value table (is_local circuit table) value shaped.0 (local_nowhere circuit table value obeys);
}
  where
    shaped : IsShaped table
    shaped = driver_all IsShaped circuit.tables sound.shaped name table at

-- a turn
turn_keeps : (Keeps : Circuit → Circuit → Type 0) (circuit : Circuit) (name : List ℕ) → IsSound circuit → Keeps circuit circuit
    → ((old new : Table) → Narrows circuit old new → Keeps circuit (with_replaced circuit new)) → Keeps circuit (with_minimum is_local circuit name)
unfolding with_minimum
turn_keeps Keeps circuit name sound itself put = cases (driver circuit.tables name) refl
  where
    cases : (found : Option Table) → driver circuit.tables name ≡ found
        → Keeps circuit (option_map_or (λ table. with_replaced circuit (minimized table (is_local circuit table))) found circuit)
    cases None at = itself
    cases (Some table) at = put table (minimized table (is_local circuit table)) (minimum_narrows circuit name table sound at)

pub turn_reduced : (circuit : Circuit) (name : List ℕ) → IsSound circuit → IsReduced circuit (with_minimum is_local circuit name)
turn_reduced circuit name sound = turn_keeps IsReduced circuit name sound (reduced_itself circuit sound) (λ old new narrow. narrows_reduced circuit old new sound narrow)

pub turn_extended : (circuit : Circuit) (name : List ℕ) → IsSound circuit → IsExtended circuit (with_minimum is_local circuit name)
turn_extended circuit name sound = turn_keeps IsExtended circuit name sound (extended_itself circuit sound) (λ old new narrow. narrows_extended circuit old new sound narrow)

pub turn_each : (circuit : Circuit) (name : List ℕ) → IsSound circuit → KeepsEach circuit (with_minimum is_local circuit name)
turn_each circuit name sound = turn_keeps KeepsEach circuit name sound (each_itself circuit) (λ old new narrow. narrows_each circuit old new sound narrow)

pub turn_sound : (circuit : Circuit) (name : List ℕ) → IsSound circuit → IsSound (with_minimum is_local circuit name)
turn_sound circuit name sound = (turn_reduced circuit name sound).change.sound

-- all turns, of signals in any order
turns_keep : (Keeps : Circuit → Circuit → Type 0) → ((circuit : Circuit) → IsSound circuit → Keeps circuit circuit)
    → ((first second third : Circuit) → Keeps first second → Keeps second third → Keeps first third)
    → ((circuit : Circuit) (name : List ℕ) → IsSound circuit → Keeps circuit (with_minimum is_local circuit name))
    → (names : List (List ℕ)) (circuit : Circuit) → IsSound circuit → Keeps circuit (fold (with_minimum is_local) circuit names)
turns_keep Keeps itself through along [] circuit sound = itself circuit sound
turns_keep Keeps itself through along (name ∷ names) circuit sound =
    through circuit (with_minimum is_local circuit name) (fold (with_minimum is_local) (with_minimum is_local circuit name) names) (along circuit name sound)
    (turns_keep Keeps itself through along names (with_minimum is_local circuit name) (turn_sound circuit name sound))

pub simplified_reduced : (circuit : Circuit) → IsSound circuit → IsReduced circuit (simplified circuit)
unfolding simplified
simplified_reduced circuit sound = turns_keep IsReduced reduced_itself reduced_through turn_reduced (order_of circuit.tables) circuit sound

pub simplified_extended : (circuit : Circuit) → IsSound circuit → IsExtended circuit (simplified circuit)
unfolding simplified
simplified_extended circuit sound = turns_keep IsExtended extended_itself extended_through turn_extended (order_of circuit.tables) circuit sound

pub simplified_each : (circuit : Circuit) → IsSound circuit → KeepsEach circuit (simplified circuit)
unfolding simplified
simplified_each circuit sound = turns_keep KeepsEach (λ c good. each_itself c) each_through turn_each (order_of circuit.tables) circuit sound

pub simplified_refines : (circuit : Circuit) → IsSound circuit → Refines circuit (simplified circuit)
simplified_refines circuit sound = changed_refines circuit (simplified circuit) sound (simplified_reduced circuit sound).change
