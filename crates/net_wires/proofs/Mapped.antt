-- What is kept if a table of a sound circuit is replaced, or each is mapped.
use Rattle.std.proofs.Common.{◌≡◌, ℕ, suc, Bool, true, Some, List, [], map, sym, ap, ◌∙◌}
use Rattle.circuit_model.specs.Names.{has, all_different}
use Rattle.circuit_model.specs.Values.{driver, driven_value}
use Rattle.circuit_model.specs.Soundness.{given, Leads, IsAcyclic, IsShaped, IsSound}
use Rattle.circuit_model.specs.declared.circuit.Table.{Table}
use Rattle.circuit_model.specs.declared.circuit.Circuit.{Circuit}
use Rattle.circuit_laws.specs.Edits.{replaced, with_tables, with_replaced}
use Rattle.circuit_laws.specs.Same.{KeepsEach}
use Rattle.circuit_laws.specs.Valuations.{Obeys}
use Rattle.circuit_laws.proofs.Names.{all_from_has, different_none}
use Rattle.circuit_laws.proofs.Drivers.{driver_output, driver_reads}
use Rattle.circuit_laws.proofs.Paths.{narrowed_acyclic, mapped_acyclic}
use Rattle.circuit_laws.proofs.Same.{same_refines}
use Rattle.circuit_laws.proofs.Tables.{obeying_turned, obeying_mapped}
use Rattle.circuit_laws.proofs.Sound.{sound_settled, sound_replaced}
use Rattle.circuit_laws.proofs.Left.{each_left}
use Rattle.circuit_laws.proofs.Mapped.{live_reads, given-turned, given-mapped, IsTurn, sound_mapped}
use Rattle.net_wires.specs.Keeping.{IsKept}

-- a table is replaced by one of the same value that reads no more
pub replaced_kept : (circuit : Circuit) (old new : Table) → IsSound circuit → driver circuit.tables old.output ≡ Some old → new.output ≡ old.output
    → ((name : List ℕ) → has new.inputs name ≡ true → has old.inputs name ≡ true) → all_different new.inputs ≡ true → IsShaped new
    → ((value : List ℕ → Bool) → driven_value (Some new) value ≡ driven_value (Some old) value) → IsKept circuit (with_replaced circuit new)
replaced_kept circuit old new sound at same within once shaped turns =
    let here : driver circuit.tables new.output ≡ Some old = ap (driver circuit.tables) same ∙ at in
    let acyclic : IsAcyclic (replaced circuit.tables new) = narrowed_acyclic circuit.tables old new sound.acyclic here within in
    let each : KeepsEach circuit (with_replaced circuit new) = obeying_turned circuit old new (sound_settled circuit sound) here acyclic (λ value obeys. turns value) in record {
      sound = sound_replaced circuit new sound (driver_output circuit.tables new.output old here) (record {
        live = all_from_has (λ name. has (given circuit) name ≡ true) new.inputs (λ name reads. live_reads circuit sound name (driver_reads circuit.tables new.output old name here (within name reads)));
        once = once;
        shaped = shaped;
      }) acyclic;
      refines = same_refines circuit (with_replaced circuit new) each.same;
      held = [];
      different = different_none;
      begun = tt;
      stays = λ state row a has_bits. tt;
      gone = tt;
      left = each_left circuit (with_replaced circuit new) each (λ signal h. ap (λ (names : List (List ℕ)). has names signal) (sym (given-turned circuit new)) ∙ h);
    }

-- each table becomes another one of its signal
pub mapped_kept : (circuit : Circuit) (turn : Table → Table) → IsSound circuit → IsTurn circuit turn
    → ((signal : List ℕ) (table : Table) (input : List ℕ) → driver circuit.tables signal ≡ Some table → has (turn table).inputs input ≡ true → (steps : ℕ) × Leads circuit.tables (suc steps) signal input)
    → ((value : List ℕ → Bool) → Obeys circuit.tables value → (table : Table) → driven_value (Some (turn table)) value ≡ driven_value (Some table) value)
    → IsKept circuit (with_tables circuit (map turn circuit.tables))
mapped_kept circuit turn sound turns leads values =
    let acyclic : IsAcyclic (map turn circuit.tables) = mapped_acyclic turn turns.keeps circuit.tables leads sound.acyclic in
    let each : KeepsEach circuit (with_tables circuit (map turn circuit.tables)) =
    obeying_mapped circuit turn (sound_settled circuit sound) turns.keeps acyclic (λ value obeys signal table at. values value obeys table) in record {
      sound = sound_mapped circuit turn sound turns acyclic;
      refines = same_refines circuit (with_tables circuit (map turn circuit.tables)) each.same;
      held = [];
      different = different_none;
      begun = tt;
      stays = λ state row a has_bits. tt;
      gone = tt;
      left = each_left circuit (with_tables circuit (map turn circuit.tables)) each (λ signal h. ap (λ (names : List (List ℕ)). has names signal) (sym (given-mapped circuit turn turns.keeps)) ∙ h);
    }
