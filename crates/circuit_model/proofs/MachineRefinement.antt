-- Refinement of what files ask for is reflexive and transitive, as that of all behaviors is.
use Rattle.circuit_model.specs.Behaviors.{RefinesAs}
use Rattle.circuit_model.proofs.Refinement.{behaves-as-itself, behaves-through}
use Rattle.circuit_model.specs.declared.machine.Spec.{Spec}
use Rattle.circuit_model.specs.MachineBehaviors.{of_spec}

pub spec-refines-itself : (spec : Spec) → RefinesAs (of_spec spec) (of_spec spec)
spec-refines-itself spec = behaves-as-itself (of_spec spec)

pub spec-refines-through : (first second third : Spec) → RefinesAs (of_spec first) (of_spec second) → RefinesAs (of_spec second) (of_spec third) → RefinesAs (of_spec first) (of_spec third)
spec-refines-through first second third p q = behaves-through (of_spec first) (of_spec second) (of_spec third) p q
