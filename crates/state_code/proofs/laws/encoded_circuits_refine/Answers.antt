use Rattle.state_code.proofs.CircuitValues.{encoded_refines}
use Rattle.state_code.proofs.laws.encoded_circuits_refine.Goals as goal

pub returns : goal.returns
returns c = λ machine style sound few. encoded_refines style machine sound few
