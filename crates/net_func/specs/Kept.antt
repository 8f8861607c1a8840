-- A circuit in order, and numbers of functions that stay if one of its tables changes or its signal
-- is fixed.
-- Source: De Micheli, "Synthesis and Optimization of Digital Circuits", chapter 8 (logic networks:
-- the transitive fanout of a vertex, and transformations that change one vertex).
use Rattle.std.specs.Prelude.{◌≡◌, ℕ, Bool, true, ◌||◌, Option, Some, None, List}
use Rattle.std.specs.List.{list_all}
use Rattle.circuit_model.specs.Names.{has}
use Rattle.circuit_model.specs.Values.{driver}
use Rattle.circuit_model.specs.Soundness.{outputs_of, leaf_names, IsSound}
use Rattle.circuit_model.specs.declared.circuit.Table.{Table}
use Rattle.circuit_model.specs.declared.circuit.Circuit.{Circuit}
use Rattle.func_core.specs.declared.functions.Func.{Func}
use Rattle.net_func.specs.Numbering.{has_number, IsOrderOf}
use Rattle.net_func.specs.declared.ordered.OrderedCircuit.{OrderedCircuit}

-- whether a name is a leaf or the signal of a table
abbrev pub is_signal : Circuit → List ℕ → Bool
is_signal circuit = λ name. has (leaf_names circuit) name || has (outputs_of circuit.tables) name

-- whether it is a leaf or the signal of a table of the don't-care part
abbrev pub is_free_signal : Circuit → List ℕ → Bool
is_free_signal circuit = λ name.
    has (leaf_names circuit) name || has (outputs_of circuit.dont_care) name

-- a sound circuit with its leaves, and with orders of its tables
pub record IsInOrder (ordered : OrderedCircuit) : Type 0 where
  pub sound : IsSound ordered.circuit
  pub leaves : ordered.leaves ≡ leaf_names ordered.circuit
  pub tables : IsOrderOf ordered.circuit.tables ordered.tables
  pub dont_care : IsOrderOf ordered.circuit.dont_care ordered.dont_care

-- a part of some numbers, without that of one signal, and closed under fanin: only signals outside
-- the transitive fanout of that signal have one
pub record IsUnreached (tables : List Table) (name : List ℕ) (number some : List ℕ → Option Func)
    : Type 0 where
  pub same : (signal : List ℕ) (f : Func) → some signal ≡ Some f → number signal ≡ Some f
  pub apart : some name ≡ None
  pub closed : (signal : List ℕ) (table : Table) → driver tables signal ≡ Some table
      → has_number some signal ≡ true → list_all (has_number some) table.inputs ≡ true
