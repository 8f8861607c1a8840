-- Changes of the tables of a circuit by which signals keep their values: some remove signals, some
-- add signals. Source: De Micheli, "Synthesis and Optimization of Digital Circuits", chapter 8:
-- transformations of a logic network keep its input/output behaviour; elimination removes a vertex,
-- extraction and decomposition add one, and simplification changes local functions alone.
use Rattle.std.specs.Prelude.{◌≡◌, ℕ, true, List}
use Rattle.circuit_model.specs.Names.{has}
use Rattle.circuit_model.specs.Soundness.{given, IsSound}
use Rattle.circuit_model.specs.declared.circuit.Circuit.{Circuit}
use Rattle.circuit_laws.specs.Edits.{with_tables}
use Rattle.circuit_laws.specs.Same.{KeepsValues}

-- the new circuit is sound and differs from the old one in its tables alone; at each leaf
-- assignment each signal that something drives in both circuits has the same value in both
pub record IsChanged (old new : Circuit) : Type 0 where
  pub sound : IsSound new
  pub rest : new ≡ with_tables old new.tables
  pub values : KeepsValues old new

-- a change that adds no signal
pub record IsReduced (old new : Circuit) : Type 0 where
  pub change : IsChanged old new
  pub signals : (signal : List ℕ) → has (given new) signal ≡ true → has (given old) signal ≡ true

-- a change that removes no signal
pub record IsExtended (old new : Circuit) : Type 0 where
  pub change : IsChanged old new
  pub signals : (signal : List ℕ) → has (given old) signal ≡ true → has (given new) signal ≡ true
