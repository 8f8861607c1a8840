use Rattle.circuit_model.proofs.MachineRefinement.{spec-refines-through}
use Rattle.circuit_model.proofs.machine_laws.refines_is_transitive.Goals as goal

pub returns : goal.returns
returns c = spec-refines-through
