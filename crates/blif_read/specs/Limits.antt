-- When what is read is sound, and which limits it keeps.
-- Source: the limits are the project's own; the SIS report (UCB/ERL M92/41) names none.
use Rattle.std.specs.Prelude.{ℕ, ◌≤◌, List, length}
use Rattle.std.specs.List.{AllByRecursion}
use Rattle.circuit_model.specs.Counts.{IsWithinLimits}
use Rattle.circuit_model.specs.Soundness.{IsSound}
use Rattle.circuit_model.specs.MachineSoundness.{IsSoundMachine, all_names}
use Rattle.circuit_model.specs.declared.machine.Spec.{Spec}
use Rattle.circuit_model.specs.declared.machine.Spec.TheVariants as spec
use Rattle.kiss_format.specs.Trips.{IsWithinLimits as IsSmallMachine}
use Rattle.blif_lines.specs.Limits.{HasShortNames}
use Rattle.sis_base.specs.declared.limits.TheConstants.{MAX_NAME}

-- a circuit or a machine is sound
abbrev pub IsSoundSpec : Spec → Type 0
IsSoundSpec (spec.Circuit circuit) = IsSound circuit
IsSoundSpec (spec.Machine machine) = IsSoundMachine machine

-- a circuit is within the limits on tables, a machine within those on rows, on states and on their
-- names
abbrev pub IsSmallSpec : Spec → Type 0
IsSmallSpec (spec.Circuit circuit) = IsWithinLimits circuit
IsSmallSpec (spec.Machine machine) = IsSmallMachine machine

-- each name has at most `MAX_NAME` bytes
abbrev pub HasShortSpec : Spec → Type 0
HasShortSpec (spec.Circuit circuit) = HasShortNames circuit
HasShortSpec (spec.Machine machine) = AllByRecursion (λ (name : List ℕ). length name ≤ MAX_NAME) (all_names machine)
