use Rattle.std.proofs.Common.{sym, subst}
use Rattle.circuit_model.specs.Soundness.{IsSound}
use Rattle.state_code.proofs.CircuitSound.{encoded_sound}
use Rattle.state_code.proofs.assigning.encode.Goals as goal

pub from_circuit-requires : goal.from_circuit-requires
from_circuit-requires g c =
    subst IsSound (sym c.in_ok-encoded.ensures)
    (encoded_sound c.args.coding.style c.args.machine.now c.requires.sound c.requires.few)
