use Rattle.circuit_model.proofs.Apart.{apart}
use Rattle.circuit_model.proofs.machine_laws.no_clash_is_missed.Goals as goal

pub returns : goal.returns
returns c = apart
