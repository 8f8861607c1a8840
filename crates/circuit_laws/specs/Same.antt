-- When two circuits are the same to an outside observer, and when signals keep their values.
-- Source: BLIF appendix of the SIS report (UCB/ERL M92/41): outputs and latches at a clock step; De
-- Micheli, "Synthesis and Optimization of Digital Circuits", chapter 8 (equivalent logic networks).
use Rattle.std.specs.Prelude.{◌≡◌, ℕ, Bool, true, false, List, length}
use Rattle.std.specs.List.{AllByRecursion}
use Rattle.circuit_model.specs.Names.{has}
use Rattle.circuit_model.specs.Runs.{value_in, outputs_at, next_state}
use Rattle.circuit_model.specs.Soundness.{given, leaf_names, IsAcyclic}
use Rattle.circuit_model.specs.declared.circuit.Table.{Table}
use Rattle.circuit_model.specs.declared.circuit.Circuit.{Circuit}

-- a leaf assignment: a bit for each latch and a bit for each input
abbrev pub IsAssignment : Circuit → List Bool → List Bool → Type 0
IsAssignment circuit state row = (length state ≡ length circuit.latches) × (length row ≡ length circuit.inputs)

-- the same ports, latches and don't-care part, and at each leaf assignment the same outputs and the
-- same next state
pub record IsSame (old new : Circuit) : Type 0 where
  pub inputs : old.inputs ≡ new.inputs
  pub outputs : old.outputs ≡ new.outputs
  pub latches : old.latches ≡ new.latches
  pub dont_care : old.dont_care ≡ new.dont_care
  pub shows : (state row : List Bool) → IsAssignment old state row → outputs_at old state row ≡ outputs_at new state row
  pub takes : (state row : List Bool) → IsAssignment old state row → next_state old state row ≡ next_state new state row

-- at each leaf assignment each signal that something drives in both circuits has the same value in
-- both
pub record KeepsValues (old new : Circuit) : Type 0 where
  pub kept : (state row : List Bool) → IsAssignment old state row → (signal : List ℕ)
      → has (given old) signal ≡ true → has (given new) signal ≡ true → value_in old state row signal ≡ value_in new state row signal

-- the same circuit, and each signal has the same value in both, whatever the bits of state and row
pub record KeepsEach (old new : Circuit) : Type 0 where
  pub same : IsSame old new
  pub values : (state row : List Bool) (signal : List ℕ) → value_in old state row signal ≡ value_in new state row signal

-- the conditions of the laws of edits, which every sound circuit meets: no table is reached from
-- itself, and no table drives an input or a latch output
pub record IsSettled (circuit : Circuit) : Type 0 where
  pub acyclic : IsAcyclic circuit.tables
  pub apart : AllByRecursion (λ (table : Table). has (leaf_names circuit) table.output ≡ false) circuit.tables
