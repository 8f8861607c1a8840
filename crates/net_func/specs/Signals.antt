-- The functions of the signals of a circuit over its leaves: its own, those with one signal fixed,
-- and where a signal is observable.
-- Source: De Micheli, "Synthesis and Optimization of Digital Circuits", chapter 8 (logic networks,
-- observability don't-cares); BLIF appendix of the SIS report (UCB/ERL M92/41), `.exdc`.
use Rattle.std.specs.Prelude.{◌≡◌, ℕ, zero, suc, Bool, true, false, not, ◌&&◌, Some, List, [], ◌∷◌, ◌++◌, ◌⊎◌, length, map, take, bytes_eq, if◌then◌else◌}
use Rattle.std.specs.List.{AllByRecursion, AllZip, list_any}
use Rattle.circuit_model.specs.Names.{has}
use Rattle.circuit_model.specs.Values.{Leaves, driver, signal_value, dont_care_leaves, is_free_under}
use Rattle.circuit_model.specs.Runs.{leaves_of}
use Rattle.circuit_model.specs.Soundness.{outputs_of, latch_inputs}
use Rattle.circuit_model.specs.declared.circuit.Table.{Table}
use Rattle.circuit_model.specs.declared.circuit.Circuit.{Circuit}
use Rattle.func_core.specs.Trees.{BooleanFunction, Tree, differ}
use Rattle.func_core.specs.Numbers.{Means, IsBig}
use Rattle.func_core.specs.declared.functions.Func.{Func}
use Rattle.net_func.specs.declared.fault.NetFuncFault.{NetFuncFault}
use Rattle.net_func.specs.declared.fault.NetFuncFault.TheVariants.{TooBig, Memory}
use Rattle.net_func.specs.Locals.{local_of, HasBigPart}

-- so many bits of a valuation, from an index on
unfoldable pub bits_from : ℕ → ℕ → (ℕ → Bool) → List Bool
bits_from place zero point = []
bits_from place (suc count) point = point place ∷ bits_from (suc place) count point

-- the leaf assignment that a valuation gives: its first bits are those of the inputs, the next
-- those of the latches, each in order
unfoldable pub leaves_at : Circuit → (ℕ → Bool) → Leaves
leaves_at circuit point =
    leaves_of circuit (bits_from (length circuit.inputs) (length circuit.latches) point)
    (bits_from 0 (length circuit.inputs) point)

-- the function of a signal of some tables, whose leaves have bits at each valuation
abbrev pub function_over : List Table → ((ℕ → Bool) → Leaves) → List ℕ → BooleanFunction
function_over tables leaves name = λ point. signal_value tables (leaves point) name

-- the function of a signal of the circuit
abbrev pub own_function : Circuit → List ℕ → BooleanFunction
own_function circuit = function_over circuit.tables (leaves_at circuit)

-- the function of a signal of its don't-care part
abbrev pub free_function : Circuit → List ℕ → BooleanFunction
free_function circuit =
    function_over circuit.dont_care
    (λ point. dont_care_leaves circuit.dont_care (leaves_at circuit point))

-- one more leaf: a signal that has this bit, whatever drives it
unfoldable pub fixed : List ℕ → Bool → Leaves → Leaves
fixed name bit leaves signal = if bytes_eq signal name then Some bit else leaves signal

-- the function of a signal in a circuit where one signal is fixed at a bit
abbrev pub forced_function : Circuit → List ℕ → Bool → List ℕ → BooleanFunction
forced_function circuit name bit =
    function_over circuit.tables (λ point. fixed name bit (leaves_at circuit point))

-- the function of a signal if another one is complemented
abbrev pub turned_function : Circuit → List ℕ → List ℕ → BooleanFunction
turned_function circuit name signal = λ point.
    forced_function circuit name (not (own_function circuit name point)) signal point

-- complementing a signal changes another one
abbrev pub is_changed : Circuit → List ℕ → List ℕ → BooleanFunction
is_changed circuit name signal = λ point.
    differ (own_function circuit signal point) (turned_function circuit name signal point)

-- it changes an output that the don't-care part does not leave open
abbrev pub is_shown : Circuit → List ℕ → List ℕ → BooleanFunction
is_shown circuit name output = λ point.
    not (is_free_under circuit.dont_care (leaves_at circuit point) output)
    && is_changed circuit name output point

-- the changes that can be observed: those of latch inputs, then those of outputs, in order
abbrev pub changes : Circuit → List ℕ → List BooleanFunction
changes circuit name =
    map (is_changed circuit name) (latch_inputs circuit)
    ++ map (is_shown circuit name) circuit.outputs

-- one of some changes occurs
abbrev pub seen_among : List BooleanFunction → BooleanFunction
seen_among some = λ point. list_any (λ (change : BooleanFunction). change point) some

-- where complementing the signal is observed
abbrev pub is_seen : Circuit → List ℕ → BooleanFunction
is_seen circuit name = seen_among (changes circuit name)

-- names with numbers: exactly these names in order, each with the number of its function
pub record AreNumbered {S : Type 0} (holds : S → ℕ → Type 0) (tree : S → ℕ → Tree)
    (limit : S → ℕ) (state : S) (names : List (List ℕ)) (value : List ℕ → BooleanFunction)
    (numbered : List (List ℕ × Func)) : Type 0 where
  pub names_are : map (λ (pair : List ℕ × Func). pair.0) numbered ≡ names
  pub mean : AllByRecursion
      (λ (pair : List ℕ × Func). Means holds tree limit state pair.1.0 (value pair.0)) numbered

-- numbers that mean the functions of names, one for each in order
abbrev pub AreMeant : {S : Type 0} → (S → ℕ → Type 0) → (S → ℕ → Tree) → (S → ℕ) → S
    → List (List ℕ) → (List ℕ → BooleanFunction) → List Func → Type 0
AreMeant holds tree limit state names value numbers =
    AllZip (λ (name : List ℕ) (number : Func). Means holds tree limit state number.0 (value name))
    names numbers

-- a part of the table that drives a signal is too big
abbrev pub IsBigAt : ℕ → List Table → (List ℕ → BooleanFunction) → List ℕ → Type 0
IsBigAt limit tables value name =
    (table : Table) × (driver tables name ≡ Some table)
    × HasBigPart limit (local_of table) (λ point. map (λ input. value input point) table.inputs)

-- the function of no table's signal is too big
abbrev pub AreWithin : ℕ → Circuit → Type 0
AreWithin limit circuit =
    (signal : List ℕ) → has (outputs_of circuit.tables) signal ≡ true
    → IsBig limit (own_function circuit signal) → ⊥

-- a fault that blames a signal has a cause there; running out of memory needs no cause
abbrev pub Blames : NetFuncFault → (List ℕ → Type 0) → Type 0
Blames (TooBig name) Cause = Cause name
Blames Memory Cause = Unit {0}

-- why a network with one signal fixed is refused: a part of another table is too big
abbrev pub IsBigForced : ℕ → Circuit → List ℕ → Bool → Type 0
IsBigForced limit circuit name bit =
    (other : List ℕ) × (bytes_eq other name ≡ false)
    × IsBigAt limit circuit.tables (forced_function circuit name bit) other

-- why the function of where a signal is observable is refused: a part is too big of a table of the
-- don't-care part, of another table at either bit of the signal, or of the sum of changes
abbrev pub IsBigSeen : ℕ → Circuit → List ℕ → Type 0
IsBigSeen limit circuit name =
    ((part : List ℕ) × IsBigAt limit circuit.dont_care (free_function circuit) part)
    ⊎ (((bit : Bool) × IsBigForced limit circuit name bit)
    ⊎ (((root : List ℕ) × (has (latch_inputs circuit ++ circuit.outputs) root ≡ true)
    × IsBig limit (is_changed circuit name root))
    ⊎ (((output : List ℕ) × (has circuit.outputs output ≡ true)
    × IsBig limit (is_shown circuit name output))
    ⊎ ((count : ℕ) × IsBig limit (seen_among (take count (changes circuit name)))))))
