-- A network's parts stay those of a sound circuit under an edit: `inside` is the circuit of the
-- parts, `circuit` the one that contracts see.
use Rattle.std.proofs.Common.{◌≡◌, ℕ, true, List, sym, subst}
use Rattle.circuit_model.specs.Names.{has}
use Rattle.circuit_model.specs.Soundness.{outputs_of, IsSound, IsAcyclic}
use Rattle.circuit_model.specs.declared.circuit.Table.{Table}
use Rattle.circuit_model.specs.declared.circuit.Circuit.{Circuit}
use Rattle.circuit_laws.specs.Fitting.{IsFitting}
use Rattle.circuit_laws.specs.Kept.{IsClosed}
use Rattle.circuit_laws.specs.Edits.{replaced, with_replaced, with_added, with_removed, without, is_other, latches_kept, timing_with}
use Rattle.circuit_laws.proofs.Sound.{sound_replaced, sound_kept}
use Rattle.net_core.specs.Fresh.{IsNewName}
use Rattle.net_core.specs.Tables.{named}
use Rattle.net_core.specs.declared.table.CoverTable.{CoverTable}
use Rattle.net_core.proofs.Removals.{removed_table, removed_latch}
use Rattle.net_core.proofs.NewNames.{sound_new}

sound_of : (inside circuit : Circuit) → inside ≡ circuit → IsSound inside → IsSound circuit
sound_of inside circuit e h = subst (λ (c : Circuit). IsSound c) e h

pub replaced_sound : (inside circuit : Circuit) (new : Table) → inside ≡ circuit → IsSound inside
    → has (outputs_of circuit.tables) new.output ≡ true → IsFitting circuit new → IsAcyclic (replaced circuit.tables new)
    → IsSound (record inside { tables = replaced inside.tables new })
unfolding with_replaced
replaced_sound inside circuit new e h known fits acyclic =
    subst (λ (c : Circuit). IsSound (with_replaced c new)) (sym e) (sound_replaced circuit new (sound_of inside circuit e h) known fits acyclic)

pub added_sound : {R : Type 0} (inside circuit : Circuit) (name : List ℕ) (table : CoverTable R) → inside ≡ circuit → IsSound inside
    → IsNewName circuit name → IsFitting circuit (named name table) → IsSound (with_added inside (named name table))
added_sound inside circuit name table e h new fits =
    subst (λ (c : Circuit). IsSound (with_added c (named name table))) (sym e) (sound_new circuit name table (sound_of inside circuit e h) new fits)

removed_sound : (inside circuit : Circuit) (name : List ℕ) → inside ≡ circuit → IsSound inside → IsClosed circuit (is_other name) → IsSound (with_removed inside name)
removed_sound inside circuit name e h closed =
    subst (λ (c : Circuit). IsSound (with_removed c name)) (sym e) (sound_kept circuit (is_other name) (sound_of inside circuit e h) closed)

pub table_gone_sound : (inside circuit : Circuit) (name : List ℕ) → inside ≡ circuit → IsSound inside → IsClosed circuit (is_other name)
    → has (outputs_of inside.tables) name ≡ true → IsSound (record inside { tables = without inside.tables name })
table_gone_sound inside circuit name e h closed known =
    subst (λ (c : Circuit). IsSound c) (removed_table inside name h known) (removed_sound inside circuit name e h closed)

pub latch_gone_sound : (inside circuit : Circuit) (name : List ℕ) → inside ≡ circuit → IsSound inside → IsClosed circuit (is_other name)
    → IsSound (record inside { tables = without inside.tables name; latches = latches_kept (is_other name) inside.latches; timing = timing_with (latches_kept (is_other name) inside.latches) inside.timing })
latch_gone_sound inside circuit name e h closed =
    subst (λ (c : Circuit). IsSound c) (removed_latch inside name) (removed_sound inside circuit name e h closed)
