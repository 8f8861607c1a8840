-- Numbers of functions by the names of signals, and what they mean for any values of the signals.
-- Source: De Micheli, "Synthesis and Optimization of Digital Circuits", chapter 8 (logic networks:
-- a network is a set of equations, one for each local function, which the values of its signals
-- solve); R. E. Bryant, "Graph-Based Algorithms for Boolean Function Manipulation", IEEE
-- Transactions on Computers C-35 (1986).
use Rattle.std.specs.Prelude.{◌≡◌, ℕ, suc, Bool, true, not, ◌&&◌, ◌||◌, Option, Some, None, List, [], ◌∷◌, map, bytes_eq, is_some, if◌then◌else◌}
use Rattle.std.specs.List.{AllByRecursion}
use Rattle.indexmap.specs.IndexMap.{get}
use Rattle.circuit_model.specs.Names.{has, all_different}
use Rattle.circuit_model.specs.Values.{Leaves, driver, driven_value}
use Rattle.circuit_model.specs.Soundness.{outputs_of, table_inputs, IsAcyclic, IsShaped}
use Rattle.circuit_model.specs.declared.circuit.Table.{Table}
use Rattle.circuit_order.specs.Order.{IsOrdered}
use Rattle.circuit_order.specs.Places.{IsIndex}
use Rattle.func_core.specs.Trees.{BooleanFunction, Tree}
use Rattle.func_core.specs.Numbers.{Means}
use Rattle.func_core.specs.declared.functions.Func.{Func}
use Rattle.net_func.specs.Signals.{IsBigAt}
use Rattle.net_func.specs.declared.building.TableOrder.{TableOrder}
use Rattle.net_func.specs.declared.numbers.Numbers.{Numbers}

-- the number of a name, if it has one
abbrev pub number_in : Numbers → List ℕ → Option Func
number_in numbers = get bytes_eq numbers.by_name

-- whether a name has a number
abbrev pub has_number : (List ℕ → Option Func) → List ℕ → Bool
has_number number name = is_some (number name)

-- all numbers are valid
abbrev pub NumbersStand : {S : Type 0} → (S → ℕ → Type 0) → S → (List ℕ → Option Func) → Type 0
NumbersStand holds state number =
    (name : List ℕ) (f : Func) → number name ≡ Some f → holds state f.0

-- each number means the function of its name
abbrev pub AreRight : {S : Type 0} → (S → ℕ → Type 0) → (S → ℕ → Tree) → (S → ℕ) → S
    → (List ℕ → Option Func) → (List ℕ → BooleanFunction) → Type 0
AreRight holds tree limit state number value =
    (name : List ℕ) (f : Func) → number name ≡ Some f
    → Means holds tree limit state f.0 (value name)

-- functions of signals solve the equation of a table that drives a signal, at each valuation
abbrev pub Solves : (List ℕ → BooleanFunction) → List ℕ → Table → Type 0
Solves value name table =
    (point : ℕ → Bool) → value name point ≡ driven_value (Some table) (λ input. value input point)

-- they solve the equations of all tables whose outputs have no number
abbrev pub SolvesRest : List Table → (List ℕ → Option Func) → (List ℕ → BooleanFunction) → Type 0
SolvesRest tables number value =
    (name : List ℕ) (table : Table) → driver tables name ≡ Some table → number name ≡ None
    → Solves value name table

-- each input of the tables is driven by one of them or has a number
abbrev pub AreClosed : List Table → (List ℕ → Option Func) → Type 0
AreClosed tables number =
    (input : List ℕ) → has (table_inputs tables) input ≡ true
    → (has (outputs_of tables) input || has_number number input) ≡ true

-- exactly the names of a test get numbers; all numbers are valid; and for any functions of names
-- that the earlier numbers mean, and that fit, each number means the function of its name
pub record Adds {S : Type 0} (holds : S → ℕ → Type 0) (tree : S → ℕ → Tree) (limit : S → ℕ)
    (before after : S) (old new : List ℕ → Option Func) (test : List ℕ → Bool)
    (Fits : (List ℕ → BooleanFunction) → Type 0) : Type 0 where
  pub known : (name : List ℕ) → has_number new name ≡ (has_number old name || test name)
  pub stand : NumbersStand holds after new
  pub right : (value : List ℕ → BooleanFunction) → AreRight holds tree limit before old value
      → Fits value → AreRight holds tree limit after new value

-- what is required of tables: no two have one output, they have no cycle, and all are shaped
pub record AreSettled (tables : List Table) : Type 0 where
  pub once : all_different (outputs_of tables) ≡ true
  pub acyclic : IsAcyclic tables
  pub shaped : AllByRecursion IsShaped tables

-- the index of each table by its output, and a topological order of the outputs
pub record IsOrderOf (tables : List Table) (order : TableOrder) : Type 0 where
  pub places : IsIndex tables (get bytes_eq order.places)
  pub names : IsOrdered tables order.names

-- the bits of leaves at a valuation: that of each is the variable of its index, from a first index
-- on
unfoldable pub leaf_bits : ℕ → List (List ℕ) → (ℕ → Bool) → Leaves
leaf_bits place [] point name = None
leaf_bits place (first ∷ names) point name =
    if bytes_eq name first then Some (point place) else leaf_bits (suc place) names point name

-- whether a name is a leaf that no table drives
abbrev pub is_free_leaf : List (List ℕ) → (List ℕ → Option ℕ) → List ℕ → Bool
is_free_leaf leaves driven name = has leaves name && not (is_some (driven name))

-- functions of leaves that no table drives are those leaves' bits
abbrev pub FitsLeaves : List (List ℕ) → (List ℕ → Option ℕ) → (List ℕ → BooleanFunction) → Type 0
FitsLeaves leaves driven value =
    (name : List ℕ) → driven name ≡ None → has leaves name ≡ true
    → (point : ℕ → Bool) → leaf_bits 0 leaves point name ≡ Some (value name point)

-- functions of leaves that no table drives are those leaves' bits, and functions of signals without
-- a number solve the equations of their tables
pub record FitsOver (leaves : List (List ℕ)) (tables : List Table) (number : List ℕ → Option Func)
    (value : List ℕ → BooleanFunction) : Type 0 where
  pub leaf : (name : List ℕ) → driver tables name ≡ None → has leaves name ≡ true
      → (point : ℕ → Bool) → leaf_bits 0 leaves point name ≡ Some (value name point)
  pub rest : SolvesRest tables number value

-- each input of the tables is driven by one of them or is a leaf
abbrev pub AreOver : List (List ℕ) → List Table → Type 0
AreOver leaves tables =
    (input : List ℕ) → has (table_inputs tables) input ≡ true
    → (has (outputs_of tables) input || has leaves input) ≡ true

-- no numbers
abbrev pub no_numbers : List ℕ → Option Func
no_numbers name = None

-- exactly the names that pass a test have numbers, each that of its function
pub record AreAll {S : Type 0} (holds : S → ℕ → Type 0) (tree : S → ℕ → Tree) (limit : S → ℕ)
    (state : S) (test : List ℕ → Bool) (value : List ℕ → BooleanFunction)
    (number : List ℕ → Option Func) : Type 0 where
  pub known : (name : List ℕ) → has_number number name ≡ test name
  pub right : AreRight holds tree limit state number value

-- only names that pass a test have numbers, each that of its function
pub record AreSome {S : Type 0} (holds : S → ℕ → Type 0) (tree : S → ℕ → Tree) (limit : S → ℕ)
    (state : S) (test : List ℕ → Bool) (value : List ℕ → BooleanFunction)
    (number : List ℕ → Option Func) : Type 0 where
  pub among : (name : List ℕ) → has_number number name ≡ true → test name ≡ true
  pub right : AreRight holds tree limit state number value

-- a signal without a number is to blame: a part of its table is too big for all functions that the
-- numbers mean, and that fit
pub record IsBlamed {S : Type 0} (holds : S → ℕ → Type 0) (tree : S → ℕ → Tree) (limit : S → ℕ)
    (state : S) (tables : List Table) (number : List ℕ → Option Func)
    (Fits : (List ℕ → BooleanFunction) → Type 0) (blamed : List ℕ) : Type 0 where
  pub unnumbered : number blamed ≡ None
  pub big : (value : List ℕ → BooleanFunction) → AreRight holds tree limit state number value
      → Fits value → IsBigAt (limit state) tables value blamed

-- names, in order, each with its number
pub record IsListing (number : List ℕ → Option Func) (names : List (List ℕ))
    (list : List (List ℕ × Func)) : Type 0 where
  pub names_are : map (λ (pair : List ℕ × Func). pair.0) list ≡ names
  pub numbers_are : map (λ (pair : List ℕ × Func). Some pair.1) list ≡ map number names
