-- The functions held, as numbers of an object, in the step of a table, and the results of the steps
-- of an order.
-- Source: De Micheli, "Synthesis and Optimization of Digital Circuits", chapter 8 (simplification
-- of one vertex after the other); the SIS report (UCB/ERL M92/41), `full_simplify`. The limit on
-- rows is the project's own.
use Rattle.std.specs.Prelude.{◌≡◌, ℕ, true, false, Result, Ok, Err, Some, List, [], ◌∷◌, ◌⊎◌}
use Rattle.std.specs.Prelude.{map, fold}
use Rattle.circuit_model.specs.Names.{has}
use Rattle.circuit_model.specs.Soundness.{outputs_of}
use Rattle.circuit_model.specs.Values.{driver}
use Rattle.circuit_model.specs.declared.circuit.Table.{Table}
use Rattle.circuit_model.specs.declared.circuit.Circuit.{Circuit}
use Rattle.circuit_order.specs.Order.{order_of}
use Rattle.func_core.specs.Trees.{Tree, complement, conjunction}
use Rattle.func_core.specs.declared.functions.Func.{Func}
use Rattle.net_func.specs.Held.{circuit_of, IsReady, AreKept}
use Rattle.net_func.specs.Signals.{AreWithin}
use Rattle.net_func.specs.declared.kept.KeptFunctions.{KeptFunctions}
use Rattle.net_func.specs.declared.fault.NetFuncFault.{NetFuncFault}
use Rattle.net_func.specs.declared.fault.NetFuncFault.TheVariants.{TooBig as BigPart}
use Rattle.net_func.specs.declared.fault.NetFuncFault.TheVariants.{Memory as NoRoom}
use Rattle.sdc_simplify.specs.Simplified.{with_minimum, is_refused}
use Rattle.sdc_simplify.specs.declared.fault.SimplifyFault.{SimplifyFault}
use Rattle.sdc_simplify.specs.declared.fault.SimplifyFault.TheVariants.{CubeLimit as LongList}
use Rattle.sdc_simplify.specs.declared.fault.SimplifyFault.TheVariants.{Memory as NoMemory}
use Rattle.odc_simplify.specs.Full.{is_dont_care, fully_simplified}
use Rattle.odc_simplify.specs.Held.{Held, function_of, inputs_of, Gives, AreLiterals}
use Rattle.odc_simplify.specs.Tested.{IsTooBig}
use Rattle.odc_simplify.specs.declared.tested.Tested.{Tested}
use Rattle.odc_simplify.specs.declared.fault.FullFault.{FullFault}
use Rattle.odc_simplify.specs.declared.fault.FullFault.TheVariants.{CubeLimit, TooBig, Memory}

-- the step of the table of a signal need not be refused: its on-list, if it must be made, is not
-- too long, and no function of the signal of a table is too big
pub record Passes (limit : ℕ) (circuit : Circuit) (name : List ℕ) : Type 0 where
  pub short : is_refused circuit name ≡ false
  pub within : AreWithin limit circuit

-- why the table of a signal is not made minimal in its step: its on-list must be made and is too
-- long; or it is not, and a function is too big
abbrev pub IsTurnFault : ℕ → Circuit → List ℕ → FullFault → Type 0
IsTurnFault limit circuit name (CubeLimit blamed) = (blamed ≡ name)
    × (is_refused circuit name ≡ true)
IsTurnFault limit circuit name (TooBig blamed) =
    (blamed ≡ name) × (is_refused circuit name ≡ false)
    × (table : Table) × (driver circuit.tables name ≡ Some table) × IsTooBig limit circuit table
IsTurnFault limit circuit name Memory = Unit {0}

-- the steps of signals pass, each in the circuit that the steps before it made
unfoldable pub PassAlong : ℕ → Circuit → List (List ℕ) → Type 0
PassAlong limit circuit [] = Unit {0}
PassAlong limit circuit (name ∷ names) =
    Passes limit circuit name × PassAlong limit (with_minimum is_dont_care circuit name) names

-- why tables of signals are not made minimal, step by step: one step has a fault, in the circuit
-- that the steps before it made, which all passed
unfoldable pub IsFaultAlong : ℕ → Circuit → List (List ℕ) → FullFault → Type 0
IsFaultAlong limit circuit [] fault = ⊥
IsFaultAlong limit circuit (name ∷ names) fault =
    IsTurnFault limit circuit name fault
    ⊎ (Passes limit circuit name
    × IsFaultAlong limit (with_minimum is_dont_care circuit name) names fault)

-- running out of memory needs no cause
abbrev pub IsFullFault : ℕ → Circuit → List (List ℕ) → FullFault → Type 0
IsFullFault limit circuit names (CubeLimit name) = IsFaultAlong limit circuit names (CubeLimit name)
IsFullFault limit circuit names (TooBig name) = IsFaultAlong limit circuit names (TooBig name)
IsFullFault limit circuit names Memory = Unit {0}

-- the result of full simplification: the circuit fully simplified, if all steps passed, or the
-- fault of the first step that has one
abbrev pub HasFullySimplified : ℕ → Circuit → Result Circuit FullFault → Type 0
HasFullySimplified limit old (Ok new) =
    PassAlong limit old (order_of old.tables) × (new ≡ fully_simplified old)
HasFullySimplified limit old (Err fault) = IsFullFault limit old (order_of old.tables) fault

-- No public clause needs what follows.

-- the functions held by the numbers of a table's output, of its observability, and of its inputs
abbrev pub held_by : (ℕ → Tree) → ℕ → Func → Func → List Func → Held
held_by tree leaves own seen inputs = record {
  leaves = leaves;
  on = conjunction (function_of tree own) (function_of tree seen);
  off = conjunction (complement (function_of tree own)) (function_of tree seen);
  inputs = map (function_of tree) inputs;
}

-- the numbers are valid for the functions held
pub record AreTests (holds : ℕ → Type 0) (tree : ℕ
    → Tree) (held : Held) (tests : Tested) : Type 0 where
  pub on : Gives holds tree tests.on held.on
  pub off : Gives holds tree tests.off held.off
  pub literals : AreLiterals holds tree tests.literals.items
  pub inputs : inputs_of tree tests.literals.items ≡ held.inputs

-- the fault of a list that was not made, and of functions of a step that were not made
abbrev pub list_fault : SimplifyFault → FullFault
list_fault (LongList name) = CubeLimit name
list_fault NoMemory = Memory

abbrev pub turn_fault : NetFuncFault → FullFault
turn_fault (BigPart name) = TooBig name
turn_fault NoRoom = Memory

-- functions of a circuit are kept, each number with its meaning in the object
pub record Serves {S : Type 0} (holds : S → ℕ → Type 0) (tree : S → ℕ → Tree) (limit : S → ℕ)
    (state : S) (circuit : Circuit) (kept : KeptFunctions) : Type 0 where
  pub ready : IsReady kept
  pub same : circuit_of kept ≡ circuit
  pub right : AreKept holds tree limit state kept

-- all steps were made: each passed, and each table was replaced by its minimum
pub record AreTurned (limit : ℕ) (circuit : Circuit) (names : List (List ℕ)) (new : Circuit)
    : Type 0 where
  pub passed : PassAlong limit circuit names
  pub made : new ≡ fold (with_minimum is_dont_care) circuit names

-- the rest of an order ends with the circuit with which the whole order ends, and fails only if
-- that fails
pub record IsUnderway (limit later : ℕ) (names left : List (List ℕ)) (before now : Circuit) : Type 0
  where
    pub same : later ≡ limit
    pub driven : (name : List ℕ) → has left name ≡ true → has (outputs_of now.tables) name ≡ true
    pub end_same : fold (with_minimum is_dont_care) before names
        ≡ fold (with_minimum is_dont_care) now left
    pub passed : PassAlong limit now left → PassAlong limit before names
    pub faults : (fault : FullFault) → IsFaultAlong limit now left fault
        → IsFaultAlong limit before names fault
