use Rattle.blif_write.proofs.Again.{read_again}
use Rattle.blif_write.proofs.trip.read_circuit_is_read_again.Goals as goal

pub returns : goal.returns
returns c = read_again
