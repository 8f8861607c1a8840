-- The behavior of a machine, and of what a file specifies, be it a circuit or a machine. Source: De
-- Micheli, "Synthesis and Optimization of Digital Circuits", chapter 9 (synchronous circuits as
-- finite-state machines, incompletely specified machines).
use Rattle.std.specs.Prelude.{◌≡◌, ℕ, Option, Some}
use Rattle.circuit_model.specs.Behaviors.{Behavior}
use Rattle.circuit_model.specs.Runs.{of_circuit}
use Rattle.circuit_model.specs.declared.machine.Machine.{Machine}
use Rattle.circuit_model.specs.declared.machine.Spec.{Spec}
use Rattle.circuit_model.specs.declared.machine.Spec.TheVariants as spec
use Rattle.circuit_model.specs.MachineRuns.{run_from}

-- a machine starts only in its reset state
abbrev pub of_machine : Machine → Behavior
of_machine machine = record {
  inputs = machine.inputs;
  outputs = machine.outputs;
  Start = Option ℕ;
  may_begin = λ state. state ≡ Some machine.reset;
  shown = run_from machine;
}

-- the behavior that a file specifies
abbrev pub of_spec : Spec → Behavior
of_spec (spec.Circuit circuit) = of_circuit circuit
of_spec (spec.Machine machine) = of_machine machine
