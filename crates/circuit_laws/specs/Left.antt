-- Remaining signals keep their values where tables and latches are removed, edit after edit.
-- Source: De Micheli, "Synthesis and Optimization of Digital Circuits", chapters 8 and 9 (sweep;
-- removal of registers that hold a constant); BLIF appendix of the SIS report (UCB/ERL M92/41) for
-- latches.
use Rattle.std.specs.Prelude.{◌≡◌, ℕ, Bool, true, Some, List}
use Rattle.std.specs.List.{AllByRecursion}
use Rattle.circuit_model.specs.Names.{has}
use Rattle.circuit_model.specs.Runs.{bit_of, latch_outputs, value_in}
use Rattle.circuit_model.specs.Soundness.{given}
use Rattle.circuit_model.specs.declared.circuit.Circuit.{Circuit}
use Rattle.circuit_laws.specs.Edits.{latches_kept}
use Rattle.circuit_laws.specs.Kept.{bits_kept}
use Rattle.circuit_laws.specs.Same.{IsAssignment}

-- a latch's name and a bit
abbrev pub ConstantLatch : Type 0
ConstantLatch = List ℕ × Bool

-- of a state, the bits of the latches that remain
abbrev pub state_left : Circuit → Circuit → List Bool → List Bool
state_left old new state = bits_kept (has (latch_outputs new)) old.latches state

-- the inputs stay, no signal and no latch is added, and at each leaf assignment in which the listed
-- latches have their bits, each remaining signal keeps its value
pub record KeepsLeft (held : List ConstantLatch) (old new : Circuit) : Type 0 where
  pub inputs : old.inputs ≡ new.inputs
  pub latches : new.latches ≡ latches_kept (has (latch_outputs new)) old.latches
  pub signals : (signal : List ℕ) → has (given new) signal ≡ true → has (given old) signal ≡ true
  pub among : AllByRecursion (λ (latch : ConstantLatch). has (latch_outputs old) latch.0 ≡ true) held
  pub kept : (state row : List Bool) → IsAssignment old state row
      → AllByRecursion (λ (latch : ConstantLatch). bit_of (latch_outputs old) state latch.0 ≡ Some latch.1) held
      → (signal : List ℕ) → has (given new) signal ≡ true → value_in old state row signal ≡ value_in new (state_left old new state) row signal
