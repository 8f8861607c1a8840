-- Functions of a circuit that are kept by numbers, and which of them remain if a table changes.
-- Source: De Micheli, "Synthesis and Optimization of Digital Circuits", chapter 8 (logic networks:
-- the transitive fanout of a vertex, and transformations that change one vertex).
use Rattle.std.specs.Prelude.{◌≡◌, ℕ, Bool, Option, Some, None, List}
use Rattle.circuit_model.specs.declared.circuit.Circuit.{Circuit}
use Rattle.func_core.specs.Trees.{BooleanFunction, Tree}
use Rattle.func_core.specs.declared.functions.Func.{Func}
use Rattle.net_func.specs.Numbering.{number_in, AreSome}
use Rattle.net_func.specs.Signals.{own_function, free_function}
use Rattle.net_func.specs.Kept.{is_signal, is_free_signal, IsInOrder}
use Rattle.net_func.specs.declared.kept.KeptFunctions.{KeptFunctions}

-- the circuit whose functions are kept
abbrev pub circuit_of : KeptFunctions → Circuit
circuit_of kept = kept.ordered.circuit

-- it is sound and in order
abbrev pub IsReady : KeptFunctions → Type 0
IsReady kept = IsInOrder kept.ordered

-- each number that is kept means the function of its signal
pub record AreKept {S : Type 0} (holds : S → ℕ → Type 0) (tree : S → ℕ → Tree) (limit : S → ℕ)
    (state : S) (kept : KeptFunctions) : Type 0 where
  pub own : AreSome holds tree limit state (is_signal (circuit_of kept))
      (own_function (circuit_of kept)) (number_in kept.own)
  pub free : AreSome holds tree limit state (is_free_signal (circuit_of kept))
      (free_function (circuit_of kept)) (number_in kept.free)

-- no number is kept
pub record KeepsNone (kept : KeptFunctions) : Type 0 where
  pub own : (name : List ℕ) → number_in kept.own name ≡ None
  pub free : (name : List ℕ) → number_in kept.free name ≡ None

-- a part of some numbers: each name kept has the same function as before, and the same names are
-- signals
pub record AreLess (test later_test : List ℕ → Bool) (value later : List ℕ → BooleanFunction)
    (number some : List ℕ → Option Func) : Type 0 where
  pub tests : (name : List ℕ) → later_test name ≡ test name
  pub same : (name : List ℕ) (f : Func) → some name ≡ Some f → number name ≡ Some f
  pub stays : (name : List ℕ) (f : Func) → some name ≡ Some f
      → (point : ℕ → Bool) → later name point ≡ value name point

-- some of the numbers are kept, each of a signal whose function is the same as before
pub record KeepsSome (before after : KeptFunctions) : Type 0 where
  pub own : AreLess (is_signal (circuit_of before)) (is_signal (circuit_of after))
      (own_function (circuit_of before)) (own_function (circuit_of after))
      (number_in before.own) (number_in after.own)
  pub free : AreLess (is_free_signal (circuit_of before)) (is_free_signal (circuit_of after))
      (free_function (circuit_of before)) (free_function (circuit_of after))
      (number_in before.free) (number_in after.free)
