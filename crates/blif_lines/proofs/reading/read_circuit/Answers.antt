use Rattle.blif_lines.specs.Steps.{settled}
use Rattle.blif_lines.proofs.reading.read_circuit.Goals as goal

pub signals_fault-requires : goal.signals_fault-requires
unfolding settled
signals_fault-requires c = rw c.in_ok-settle.ensures (c.requires (c.in_ok-fault.ensures.once c.in_default.is))
