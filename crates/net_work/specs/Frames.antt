-- The parts of a network besides its tables: the roots, and lists of the same names.
-- Source: BLIF appendix of the SIS report (UCB/ERL M92/41): ports, latches, clocks and the
-- don't-care part of a model.
use Rattle.std.specs.Prelude.{◌≡◌, ℕ, List, ◌++◌}
use Rattle.circuit_model.specs.Names.{has}
use Rattle.circuit_model.specs.Soundness.{latch_inputs}
use Rattle.circuit_model.specs.declared.circuit.Circuit.{Circuit}

-- the outputs and the inputs of latches
unfoldable pub roots_of : Circuit → List (List ℕ)
roots_of circuit = circuit.outputs ++ latch_inputs circuit

-- two lists have the same names
abbrev pub HasSame : List (List ℕ) → List (List ℕ) → Type 0
HasSame names others = (name : List ℕ) → has names name ≡ has others name
