use Rattle.state_code.proofs.CircuitSound.{encoded_sound}
use Rattle.state_code.proofs.laws.encoded_circuits_are_sound.Goals as goal

pub returns : goal.returns
returns c = λ machine style sound few. encoded_sound style machine sound few
