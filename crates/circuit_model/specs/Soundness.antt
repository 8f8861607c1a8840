-- When a circuit is sound: what holds of every circuit that is read, and what every command keeps.
-- Source: BLIF appendix of the SIS report (UCB/ERL M92/41): each signal has one driver, tables form
-- no cycle, and all latches share one clock.
use Rattle.std.specs.Prelude.{◌≡◌, ℕ, zero, suc, ◌≤◌, true, false, Option, Some, None, List, [], ◌∷◌, ◌++◌, map, flat_map, length, codes, option_to_list}
use Rattle.std.specs.List.{AllByRecursion}
use Rattle.sis_base.specs.Written.{is_word}
use Rattle.circuit_model.specs.Names.{has, all_different}
use Rattle.circuit_model.specs.Values.{driver}
use Rattle.circuit_model.specs.Runs.{latch_outputs}
use Rattle.circuit_model.specs.declared.circuit.Tri.{Tri}
use Rattle.circuit_model.specs.declared.circuit.Table.{Table}
use Rattle.circuit_model.specs.declared.circuit.Latch.{Latch}
use Rattle.circuit_model.specs.declared.circuit.Timing.{Timing}
use Rattle.circuit_model.specs.declared.circuit.Circuit.{Circuit}

-- the signals that tables drive
abbrev pub outputs_of : List Table → List (List ℕ)
outputs_of tables = map (λ (table : Table). table.output) tables

-- the signals that latches take
abbrev pub latch_inputs : Circuit → List (List ℕ)
latch_inputs circuit = map (λ (latch : Latch). latch.input) circuit.latches

-- the signal that controls the clock, if one is named
abbrev pub control_of : Option Timing → List (List ℕ)
control_of None = []
control_of (Some timing) = option_to_list timing.control

-- the names that tables mention
abbrev pub names_of : List Table → List (List ℕ)
names_of tables = flat_map (λ (table : Table). table.output ∷ table.inputs) tables

-- every name of a circuit
unfoldable pub all_names : Circuit → List (List ℕ)
all_names circuit =
    circuit.name ∷ circuit.inputs ++ (circuit.outputs ++ (circuit.clocks ++ (control_of circuit.timing ++ (latch_outputs circuit
    ++ (latch_inputs circuit ++ (names_of circuit.tables ++ names_of circuit.dont_care))))))

-- the leaves: inputs and latch outputs
abbrev pub leaf_names : Circuit → List (List ℕ)
leaf_names circuit = circuit.inputs ++ latch_outputs circuit

-- the names that tables read
abbrev pub table_inputs : List Table → List (List ℕ)
table_inputs tables = flat_map (λ (table : Table). table.inputs) tables

-- all driven signals: inputs, latch outputs, table outputs
unfoldable pub given : Circuit → List (List ℕ)
given circuit = circuit.inputs ++ (latch_outputs circuit ++ outputs_of circuit.tables)

-- all signals that are read by a table, a latch or an output
unfoldable pub taken : Circuit → List (List ℕ)
taken circuit = table_inputs circuit.tables ++ (latch_inputs circuit ++ circuit.outputs)

-- a signal leads to another one in a number of steps, each from a signal to an input of the table
-- that drives it
unfoldable pub Leads : List Table → ℕ → List ℕ → List ℕ → Type 0
Leads tables zero from to = from ≡ to
Leads tables (suc steps) from to =
    (table : Table) × (driver tables from ≡ Some table) × (next : List ℕ) × (has table.inputs next ≡ true) × Leads tables steps next to

-- no signal leads to itself in one step or more
unfoldable pub IsAcyclic : List Table → Type 0
IsAcyclic tables =
    (signal : List ℕ) (steps : ℕ) → Leads tables (suc steps) signal signal → ⊥

-- each row is as long as the list of inputs; without rows the phase is 1
abbrev pub IsShaped : Table → Type 0
IsShaped table = AllByRecursion (λ (row : List Tri). length row ≡ length table.inputs) table.rows × (table.rows ≡ [] → table.phase ≡ true)

-- What a circuit must satisfy to have a meaning. Names: all are words, and port lists repeat none.
-- Drivers: nothing is driven twice, whatever a table, a latch or an output reads is driven, and
-- signals do not lead back to themselves. Tables: all are shaped, and the circuit's own repeat no
-- input. Latches: an init is at most 3; there is timing only if there are latches, and its control
-- is driven by none of them and by no table, and is not `NIL`, the word for none. The don't-care
-- part: its tables are shaped, no two have the same output, none leads back to itself, and what
-- they read is an output of its own tables or a leaf; they may repeat inputs.
pub record IsSound (circuit : Circuit) : Type 0 where
  pub words : AllByRecursion (λ name. is_word name ≡ true) (all_names circuit)
  pub inputs_once : all_different circuit.inputs ≡ true
  pub outputs_once : all_different circuit.outputs ≡ true
  pub one_driver : all_different (given circuit) ≡ true
  pub driven : AllByRecursion (λ name. has (given circuit) name ≡ true) (taken circuit)
  pub inits : AllByRecursion (λ (latch : Latch). latch.init ≤ 3) circuit.latches
  pub untimed_without_latches : circuit.latches ≡ [] → circuit.timing ≡ None
  pub shaped : AllByRecursion IsShaped circuit.tables
  pub table_inputs_once : AllByRecursion (λ (table : Table). all_different table.inputs ≡ true) circuit.tables
  pub acyclic : IsAcyclic circuit.tables
  pub control_undriven : AllByRecursion (λ name. has (latch_outputs circuit ++ outputs_of circuit.tables) name ≡ false) (control_of circuit.timing)
  pub control_not_nil : has (control_of circuit.timing) (codes "NIL") ≡ false
  pub dont_care_once : all_different (outputs_of circuit.dont_care) ≡ true
  pub dont_care_known : AllByRecursion (λ name. has (outputs_of circuit.dont_care ++ leaf_names circuit) name ≡ true) (table_inputs circuit.dont_care)
  pub dont_care_acyclic : IsAcyclic circuit.dont_care
  pub dont_care_shaped : AllByRecursion IsShaped circuit.dont_care
