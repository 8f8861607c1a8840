-- Which signals the trees of a circuit take as their leaves.
-- Source: Keutzer, "DAGON: Technology binding and local optimization by DAG matching" (24th Design
-- Automation Conference, 1987): the leaves of a tree are inputs of the network and roots of other
-- trees.
use Rattle.std.specs.Prelude.{◌≡◌, ◌⊎◌, ℕ, ◌<◌, true, false, List}
use Rattle.circuit_model.specs.Names.{has}
use Rattle.circuit_model.specs.Soundness.{table_inputs}
use Rattle.circuit_model.specs.declared.circuit.Circuit.{Circuit}
use Rattle.subject_tree.specs.Trees.{Tree, Leaf, Inv, Nand}
use Rattle.subject_tree.specs.Forest.{is_put, uses_of}

-- a leaf occurs in a tree
abbrev pub IsLeafOf : {A : Type 0} → A → Tree A → Type 0
IsLeafOf x (Leaf y) = y ≡ x
IsLeafOf x (Inv t) = IsLeafOf x t
IsLeafOf x (Nand t u) = IsLeafOf x t ⊎ IsLeafOf x u

-- a table reads a signal, some row has a literal of it, and its own table, if it has one, is not
-- inlined
pub record IsTakenAsLeaf (circuit : Circuit) (signal : List ℕ) : Type 0 where
  pub whole : is_put circuit signal ≡ false
  pub used : 0 < uses_of circuit.tables signal
  pub read : has (table_inputs circuit.tables) signal ≡ true
