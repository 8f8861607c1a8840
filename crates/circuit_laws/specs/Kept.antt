-- Removal of the tables and latches that nothing needs: what is kept, and the bits of the latches
-- that are kept. Source: De Micheli, "Synthesis and Optimization of Digital Circuits", chapter 8
-- (sweep: vertices from which no output is reached are removed); BLIF appendix of the SIS report
-- (UCB/ERL M92/41) for latches and the don't-care part.
use Rattle.std.specs.Prelude.{◌≡◌, ℕ, Bool, true, List, [], ◌∷◌, ◌⊎◌, if◌then◌else◌}
use Rattle.std.specs.List.{AllByRecursion}
use Rattle.circuit_model.specs.Names.{has}
use Rattle.circuit_model.specs.Soundness.{outputs_of, table_inputs}
use Rattle.circuit_model.specs.declared.circuit.Table.{Table}
use Rattle.circuit_model.specs.declared.circuit.Latch.{Latch}
use Rattle.circuit_model.specs.declared.circuit.Circuit.{Circuit}

-- a test on names passes all that is needed: the outputs; what a table or latch that passes reads;
-- and what the don't-care part reads that is none of its own tables
pub record IsClosed (circuit : Circuit) (test : List ℕ → Bool) : Type 0 where
  pub outputs : AllByRecursion (λ name. test name ≡ true) circuit.outputs
  pub tables : AllByRecursion (λ (table : Table). test table.output ≡ true → AllByRecursion (λ name. test name ≡ true) table.inputs) circuit.tables
  pub latches : AllByRecursion (λ (latch : Latch). test latch.output ≡ true → test latch.input ≡ true) circuit.latches
  pub dont_care : AllByRecursion (λ name. (has (outputs_of circuit.dont_care) name ≡ true) ⊎ (test name ≡ true)) (table_inputs circuit.dont_care)

-- of a state, the bits of the latches whose signals pass the test
unfoldable pub bits_kept : (List ℕ → Bool) → List Latch → List Bool → List Bool
bits_kept test [] bits = []
bits_kept test (latch ∷ latches) [] = []
bits_kept test (latch ∷ latches) (bit ∷ bits) = if test latch.output then bit ∷ bits_kept test latches bits else bits_kept test latches bits
