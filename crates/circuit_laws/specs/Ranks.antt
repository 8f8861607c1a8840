-- Ranks: an equivalent form of "no signal is reached from itself". Source: De Micheli, "Synthesis
-- and Optimization of Digital Circuits", chapter 8: a logic network is a directed acyclic graph, so
-- its vertices can be numbered such that each one's number is greater than those of its fan-ins.
use Rattle.std.specs.Prelude.{◌≡◌, ℕ, ◌<◌, Some, List}
use Rattle.std.specs.List.{AllByRecursion}
use Rattle.circuit_model.specs.Values.{driver}
use Rattle.circuit_model.specs.declared.circuit.Table.{Table}

-- the rank of each driven signal is greater than those of its table's inputs
abbrev pub Falls : List Table → (List ℕ → ℕ) → Type 0
Falls tables rank =
    (signal : List ℕ) (table : Table) → driver tables signal ≡ Some table → AllByRecursion (λ input. rank input < rank signal) table.inputs

-- a rank that falls from each driven signal to what its table reads
pub record HasRank (tables : List Table) : Type 0 where
  pub rank : List ℕ → ℕ
  pub falls : Falls tables rank
