use Rattle.circuit_model.proofs.MachineRefinement.{spec-refines-itself}
use Rattle.circuit_model.proofs.machine_laws.refines_is_reflexive.Goals as goal

pub returns : goal.returns
returns c = spec-refines-itself
