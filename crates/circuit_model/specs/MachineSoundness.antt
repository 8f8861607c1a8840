-- When a machine is sound: what holds of every machine that is read. Source: SIS report (UCB/ERL
-- M92/41), KISS2 tables: states are known by the names that rows mention; `*`, `ANY` and `-` are
-- not names of states but mean every state or an open one. The limits are the project's own.
use Rattle.std.specs.Prelude.{◌≡◌, ℕ, ◌^◌, ◌<◌, ◌≤◌, Bool, true, false, ◌||◌, ◌==◌, None, List, [], ◌∷◌, ◌++◌, flat_map, length, codes, bytes_eq, option_to_list, if◌then◌else◌}
use Rattle.std.specs.List.{AllByRecursion, list_any, range_with_len}
use Rattle.sis_base.specs.Written.{is_word}
use Rattle.circuit_model.specs.Names.{all_different}
use Rattle.circuit_model.specs.declared.machine.Machine.{Machine}
use Rattle.circuit_model.specs.declared.machine.MachineRow.{MachineRow}
use Rattle.circuit_model.specs.Clashes.{first_clash}
use Rattle.sis_base.specs.declared.limits.TheConstants.{MAX_PORTS}

-- whether a word means every state, or an open one
abbrev pub is_any : List ℕ → Bool
is_any word = bytes_eq word (codes "*") || bytes_eq word (codes "ANY") || bytes_eq word (codes "-")

-- every name of a machine
abbrev pub all_names : Machine → List (List ℕ)
all_names machine = machine.name ∷ machine.inputs ++ (machine.outputs ++ machine.states)

-- the states that a row mentions, the current one first
abbrev pub mentioned_by : MachineRow → List ℕ
mentioned_by row = option_to_list row.current ++ option_to_list row.next

-- known numbers, followed by those of a list that are new, in order of first mention
unfoldable pub first_mentions : List ℕ → List ℕ → List ℕ
first_mentions known [] = known
first_mentions known (number ∷ numbers) =
    first_mentions (if list_any (λ one. number == one) known then known else known ++ number ∷ []) numbers

-- a row has a character for each input and for each output
pub record IsShaped (machine : Machine) (row : MachineRow) : Type 0 where
  pub input : length row.input ≡ length machine.inputs
  pub output : length row.output ≡ length machine.outputs

-- What a machine must satisfy to have a meaning. Names: all are words, and no port occurs twice.
-- Sizes: 1 to `MAX_PORTS` inputs and outputs, at least one row and fewer than 2^29. States: all are
-- different, none is a word for every state, they are exactly those that rows mention, in the order
-- of first mention, and the reset is one of them. Rows are shaped, and no two clash.
pub record IsSoundMachine (machine : Machine) : Type 0 where
  pub words : AllByRecursion (λ name. is_word name ≡ true) (all_names machine)
  pub ports_once : all_different (machine.inputs ++ machine.outputs) ≡ true
  pub some_inputs : 1 ≤ length machine.inputs
  pub few_inputs : length machine.inputs ≤ MAX_PORTS
  pub some_outputs : 1 ≤ length machine.outputs
  pub few_outputs : length machine.outputs ≤ MAX_PORTS
  pub some_rows : 1 ≤ length machine.rows
  pub few_rows : length machine.rows < 2 ^ 29
  pub states_once : all_different machine.states ≡ true
  pub states_named : AllByRecursion (λ state. is_any state ≡ false) machine.states
  pub in_order : first_mentions [] (flat_map mentioned_by machine.rows) ≡ range_with_len 0 (length machine.states)
  pub reset : machine.reset < length machine.states
  pub shaped : AllByRecursion (IsShaped machine) machine.rows
  pub apart : first_clash machine.rows ≡ None
