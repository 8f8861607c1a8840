-- A table is composed into all its fanouts: the circuit is sound, each signal keeps its value, and
-- no table reads the composed one any more.
use Rattle.std.proofs.Common.{◌≡◌, ℕ, ◌+◌, suc, Bool, true, false, not, ◌&&◌, Some, List, [], ◌∷◌, ◌++◌, map, refl, sym, ◌∙◌, subst, arith, inl, inr, ◌⊎◌}
use Rattle.std.specs.List.{AllByRecursion}
use Rattle.std.proofs.lemmas.Bool.{false≢true, or_from}
use Rattle.circuit_model.specs.Names.{has, all_different}
use Rattle.circuit_model.specs.Values.{driver}
use Rattle.circuit_model.specs.Runs.{latch_outputs}
use Rattle.circuit_model.specs.Soundness.{outputs_of, table_inputs, leaf_names, given, Leads, IsAcyclic, IsShaped, IsSound}
use Rattle.circuit_model.specs.declared.circuit.Table.{Table}
use Rattle.circuit_model.specs.declared.circuit.Circuit.{Circuit}
use Rattle.circuit_laws.specs.Edits.{with_tables, is_read, is_root}
use Rattle.circuit_laws.specs.Same.{KeepsEach}
use Rattle.circuit_laws.proofs.Names.{all_has, has_none, has_not, has_either, has_back, different_apart}
use Rattle.circuit_laws.proofs.Drivers.{driver_all, driver_reads, driver_output}
use Rattle.circuit_laws.proofs.Ranks.{leads_one, leads_joined}
use Rattle.circuit_laws.proofs.Paths.{mapped_acyclic, no_return}
use Rattle.circuit_laws.proofs.Sound.{sound_settled}
use Rattle.circuit_laws.proofs.Tables.{obeying_mapped}
use Rattle.circuit_laws.specs.Changes.{IsReduced}
use Rattle.circuit_laws.proofs.Changes.{each_reduced, removed_reduced, reduced_through}
use Rattle.circuit_laws.proofs.Mapped.{IsTurn, live_reads, outputs-mapped, sound_mapped}
use Rattle.net_core.proofs.Removals.{no_latch}
use Rattle.alg_tables.specs.Taking.{composed_into}
use Rattle.alg_tables.proofs.Taken.{taken_output, taken_once, taken_shaped, taken_reads, taken_unread, taken_value}
use Rattle.net_elim.specs.Eliminating.{with_taken, with_eliminated}

-- no table of a sound circuit reads its own signal
pub own_unread : (circuit : Circuit) (inner : Table) → IsSound circuit → driver circuit.tables inner.output ≡ Some inner → has inner.inputs inner.output ≡ false
own_unread circuit inner sound at =
    has_not inner.inputs inner.output (λ h. no_return circuit.tables sound.acyclic inner.output 0 (leads_one circuit.tables inner.output inner.output inner at h))

taking_turn : (circuit : Circuit) (inner : Table) → IsSound circuit → driver circuit.tables inner.output ≡ Some inner → IsTurn circuit (composed_into inner)
taking_turn circuit inner sound at = record {
  keeps = taken_output inner;
  once = taken_once inner;
  shaped = taken_shaped inner;
  reads = λ table name h.
      elim (taken_reads inner table name h) as (λ _. (has table.inputs name ≡ true) ⊎ (has (given circuit) name ≡ true)) [
        | inl old ↦ inl old
        | inr new ↦ inr (live_reads circuit sound name (driver_reads circuit.tables inner.output inner name at new.1))
      ];
}

taking_leads : (circuit : Circuit) (inner : Table) → driver circuit.tables inner.output ≡ Some inner → (signal : List ℕ) (table : Table) (input : List ℕ) → driver circuit.tables signal ≡ Some table
    → has (composed_into inner table).inputs input ≡ true → (steps : ℕ) × Leads circuit.tables (suc steps) signal input
taking_leads circuit inner at signal table input here reads =
    elim (taken_reads inner table input reads) as (λ _. (steps : ℕ) × Leads circuit.tables (suc steps) signal input) [
      | inl old ↦ (0, leads_one circuit.tables signal input table here old)
      | inr new ↦ (
        1,
        let e : 1 + 1 ≡ suc 1 = omega arith in
            subst (λ (n : ℕ). Leads circuit.tables n signal input) e
            (leads_joined circuit.tables 1 1 signal inner.output input (leads_one circuit.tables signal inner.output table here new.0) (leads_one circuit.tables inner.output input inner at new.1)),
      )
    ]

taking_acyclic : (circuit : Circuit) (inner : Table) → IsSound circuit → driver circuit.tables inner.output ≡ Some inner → IsAcyclic (map (composed_into inner) circuit.tables)
taking_acyclic circuit inner sound at = mapped_acyclic (composed_into inner) (taken_output inner) circuit.tables (taking_leads circuit inner at) sound.acyclic

taking_sound : (circuit : Circuit) (inner : Table) → IsSound circuit → driver circuit.tables inner.output ≡ Some inner → IsSound (with_taken circuit inner)
taking_sound circuit inner sound at = sound_mapped circuit (composed_into inner) sound (taking_turn circuit inner sound at) (taking_acyclic circuit inner sound at)

taking_each : (circuit : Circuit) (inner : Table) → IsSound circuit → driver circuit.tables inner.output ≡ Some inner → KeepsEach circuit (with_taken circuit inner)
taking_each circuit inner sound at =
    obeying_mapped circuit (composed_into inner) (sound_settled circuit sound) (taken_output inner) (taking_acyclic circuit inner sound at)
    (λ value obeys signal table here.
    taken_value inner table value (driver_all IsShaped circuit.tables sound.shaped inner.output inner at) (driver_all IsShaped circuit.tables sound.shaped signal table here)
    (driver_all (λ (t : Table). all_different t.inputs ≡ true) circuit.tables sound.table_inputs_once inner.output inner at) (own_unread circuit inner sound at) (obeys inner.output inner at))

pub taking_reduced : (circuit : Circuit) (inner : Table) → IsSound circuit → driver circuit.tables inner.output ≡ Some inner → IsReduced circuit (with_taken circuit inner)
taking_reduced circuit inner sound at =
    each_reduced circuit (map (composed_into inner) circuit.tables) (taking_sound circuit inner sound at) (outputs-mapped (composed_into inner) (taken_output inner) circuit.tables) (taking_each circuit inner sound at)

-- no table reads the signal after that
none_read : (inner : Table) → has inner.inputs inner.output ≡ false → (tables : List Table) → AllByRecursion (λ (t : Table). all_different t.inputs ≡ true) tables
    → has (table_inputs (map (composed_into inner) tables)) inner.output ≡ false
none_read inner apart [] once = refl
none_read inner apart (table ∷ tables) once =
    has_none (composed_into inner table).inputs (table_inputs (map (composed_into inner) tables)) inner.output (taken_unread inner table once.0 apart) (none_read inner apart tables once.1)

-- what a table drives is not a leaf
pub leaf_apart : (circuit : Circuit) (name : List ℕ) → IsSound circuit → has (outputs_of circuit.tables) name ≡ true → has (leaf_names circuit) name ≡ false
unfolding given
leaf_apart circuit name sound drives =
    let first = different_apart circuit.inputs (latch_outputs circuit ++ outputs_of circuit.tables) sound.one_driver in
    has_none circuit.inputs (latch_outputs circuit) name
    (has_not circuit.inputs name (λ h. first.between name h (has_back (latch_outputs circuit) (outputs_of circuit.tables) name drives)))
    (no_latch circuit name sound drives)

-- what the don't-care part of a sound circuit reads is not a table's signal, unless it has a table
-- of its own for it
pub part_apart : (circuit : Circuit) (name : List ℕ) → IsSound circuit → has (outputs_of circuit.tables) name ≡ true
    → (not (has (outputs_of circuit.dont_care) name) && has (table_inputs circuit.dont_care) name) ≡ false
part_apart circuit name sound drives = cases (has (outputs_of circuit.dont_care) name) refl (has (table_inputs circuit.dont_care) name) refl
  where
    apart : has (leaf_names circuit) name ≡ false
    apart = leaf_apart circuit name sound drives

    cases : (a : Bool) → has (outputs_of circuit.dont_care) name ≡ a → (b : Bool) → has (table_inputs circuit.dont_care) name ≡ b → (not a && b) ≡ false
    cases true own b e = refl
    cases false own false e = refl
    cases false own true e =
        elim (has_either (outputs_of circuit.dont_care) (leaf_names circuit) name
        (all_has (λ x. has (outputs_of circuit.dont_care ++ leaf_names circuit) x ≡ true) (table_inputs circuit.dont_care) sound.dont_care_known name e)) as (λ _. true ≡ false) [
          | inl there ↦ absurd (false≢true (sym own ∙ there))
          | inr leaf ↦ absurd (false≢true (sym apart ∙ leaf))
        ]

-- a table is composed into all its fanouts, and removed
rootless : (circuit : Circuit) (tables : List Table) (name : List ℕ) → is_root (with_tables circuit tables) name ≡ is_root circuit name
unfolding is_root
rootless circuit tables name = refl

pub eliminated_reduced : (circuit : Circuit) (inner : Table) → IsSound circuit → driver circuit.tables inner.output ≡ Some inner → is_root circuit inner.output ≡ false
    → IsReduced circuit (with_eliminated circuit inner)
unfolding is_read
eliminated_reduced circuit inner sound at inside =
    let drives : has (outputs_of circuit.tables) inner.output ≡ true = driver_output circuit.tables inner.output inner at in
    let put : IsReduced circuit (with_taken circuit inner) = taking_reduced circuit inner sound at in
    reduced_through circuit (with_taken circuit inner) (with_eliminated circuit inner) put
    (removed_reduced (with_taken circuit inner) inner.output put.change.sound
    (or_from (has (table_inputs (map (composed_into inner) circuit.tables)) inner.output) (not (has (outputs_of circuit.dont_care) inner.output) && has (table_inputs circuit.dont_care) inner.output)
    (none_read inner (own_unread circuit inner sound at) circuit.tables sound.table_inputs_once) (part_apart circuit inner.output sound drives))
    (rootless circuit (map (composed_into inner) circuit.tables) inner.output ∙ inside)
    (no_latch circuit inner.output sound drives))
