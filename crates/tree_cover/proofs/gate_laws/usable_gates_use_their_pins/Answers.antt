use Rattle.tree_cover.proofs.GateValuing.{usable_use_pins}
use Rattle.tree_cover.proofs.gate_laws.usable_gates_use_their_pins.Goals as goal

pub returns : goal.returns
returns c = usable_use_pins
