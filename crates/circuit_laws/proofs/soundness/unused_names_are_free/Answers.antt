use Rattle.circuit_laws.proofs.Sound.{unused_given, unused_control, taken_given, fitting_apart}
use Rattle.circuit_laws.proofs.soundness.unused_names_are_free.Goals as goal

pub returns-clause-given : goal.returns-clause-given
returns-clause-given c = unused_given

pub returns-clause-control : goal.returns-clause-control
returns-clause-control c = unused_control

pub returns-clause-taken : goal.returns-clause-taken
returns-clause-taken c = taken_given

pub returns-clause-inputs : goal.returns-clause-inputs
returns-clause-inputs c = fitting_apart
