-- Splitting off a table: part of what tables compute becomes a table of its own, and they may read
-- its signal. Source: Brayton, Rudell, Sangiovanni-Vincentelli and Wang, "MIS: A Multiple-Level
-- Logic Optimization System" (1987); De Micheli, "Synthesis and Optimization of Digital Circuits",
-- chapter 8 (extraction and decomposition: a vertex is added, and others are rewritten over its
-- variable).
use Rattle.std.specs.Prelude.{◌≡◌, ◌⊎◌, ℕ, Bool, true, Some, List, [], ◌∷◌, ◌++◌, map}
use Rattle.std.specs.List.{AllByRecursion}
use Rattle.circuit_model.specs.Names.{has, all_different}
use Rattle.circuit_model.specs.Values.{driven_value}
use Rattle.circuit_model.specs.Soundness.{IsShaped}
use Rattle.circuit_model.specs.declared.circuit.Table.{Table}
use Rattle.circuit_model.specs.declared.circuit.Circuit.{Circuit}
use Rattle.circuit_laws.specs.Edits.{with_tables}

-- a table rewritten over a new one keeps its shape and lists no input twice where the old one did
-- not. It reads what it read, and may read the new signal if it read all inputs of the new table.
-- It has its value wherever the new signal has the new table's value.
pub record IsOver (new old made : Table) : Type 0 where
  pub shaped : IsShaped old → IsShaped made
  pub once : all_different old.inputs ≡ true → all_different made.inputs ≡ true
  pub reads : (name : List ℕ) → has made.inputs name ≡ true
      → (has old.inputs name ≡ true) ⊎ ((name ≡ new.output) × ((input : List ℕ) → has new.inputs input ≡ true → has old.inputs input ≡ true))
  pub value : (value : List ℕ → Bool) → value new.output ≡ driven_value (Some new) value → driven_value (Some made) value ≡ driven_value (Some old) value

-- each table of a circuit is rewritten over the new one, and drives the same signal
pub record IsSplit (circuit : Circuit) (new : Table) (turn : Table → Table) : Type 0 where
  pub outputs : (table : Table) → (turn table).output ≡ table.output
  pub tables : AllByRecursion (λ (table : Table). IsOver new table (turn table)) circuit.tables

-- the circuit with its tables rewritten, and the new table last
abbrev pub with_split : Circuit → (Table → Table) → Table → Circuit
with_split circuit turn new = with_tables circuit (map turn circuit.tables ++ new ∷ [])
