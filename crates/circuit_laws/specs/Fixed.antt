-- A latch that always holds one bit. Source: BLIF appendix of the SIS report (UCB/ERL M92/41),
-- `.latch` and its initial values; De Micheli, "Synthesis and Optimization of Digital Circuits",
-- chapter 9 (removal of registers that hold a constant).
use Rattle.std.specs.Prelude.{◌≡◌, ℕ, Bool, true, Some, List, bytes_eq, ◌⊎◌}
use Rattle.std.specs.List.{AllByRecursion}
use Rattle.circuit_model.specs.Names.{has}
use Rattle.circuit_model.specs.Values.{driver, driven_value}
use Rattle.circuit_model.specs.Runs.{latch_outputs, may_start}
use Rattle.circuit_model.specs.Soundness.{outputs_of, table_inputs}
use Rattle.circuit_model.specs.declared.circuit.Table.{Table}
use Rattle.circuit_model.specs.declared.circuit.Latch.{Latch}
use Rattle.circuit_model.specs.declared.circuit.Circuit.{Circuit}
use Rattle.circuit_laws.specs.Edits.{is_other}

-- a table that has one value whatever the values of its inputs
abbrev pub IsConstant : Table → Bool → Type 0
IsConstant table bit = (value : List ℕ → Bool) → driven_value (Some table) value ≡ bit

-- the latch of the name may start at the bit, a table that is this constant drives its input, and
-- the don't-care part does not read it, unless the name is one of the part's own tables
pub record IsFixed (circuit : Circuit) (name : List ℕ) (bit : Bool) : Type 0 where
  pub latch : has (latch_outputs circuit) name ≡ true
  pub starts : AllByRecursion (λ (latch : Latch). bytes_eq name latch.output ≡ true → may_start latch.init bit) circuit.latches
  pub stays : AllByRecursion (λ (latch : Latch). bytes_eq name latch.output ≡ true → (table : Table) × (driver circuit.tables latch.input ≡ Some table) × IsConstant table bit) circuit.latches
  pub unread : AllByRecursion (λ other. (has (outputs_of circuit.dont_care) other ≡ true) ⊎ (is_other name other ≡ true)) (table_inputs circuit.dont_care)
