-- What a table can say of a machine: not its name, nor those of its ports; and it is within limits.
-- Source: SIS report (UCB/ERL M92/41), KISS2 tables: `.i` and `.o` are numbers alone. The limits
-- are the project's own.
use Rattle.std.specs.Prelude.{ℕ, ◌≤◌, List, length, codes}
use Rattle.std.specs.List.{AllByRecursion}
use Rattle.circuit_model.specs.declared.machine.Machine.{Machine}
use Rattle.kiss_format.specs.Reader.{made_names}
use Rattle.sis_base.specs.declared.limits.TheConstants.{MAX_MACHINE_ROWS, MAX_NAME, MAX_STATES}

-- a machine is within the limits on rows, on states and on the names of states
pub record IsWithinLimits (machine : Machine) : Type 0 where
  pub rows : length machine.rows ≤ MAX_MACHINE_ROWS
  pub states : length machine.states ≤ MAX_STATES
  pub short : AllByRecursion (λ (state : List ℕ). length state ≤ MAX_NAME) machine.states

-- a machine with made names for itself and its ports
abbrev pub plainly_named : Machine → Machine
plainly_named machine = record machine {
  name = codes "top";
  inputs = made_names (codes "IN_") (length machine.inputs);
  outputs = made_names (codes "OUT_") (length machine.outputs);
}
