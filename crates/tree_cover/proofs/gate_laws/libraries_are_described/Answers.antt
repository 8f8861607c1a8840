use Rattle.tree_cover.proofs.GateValuing.{described}
use Rattle.tree_cover.proofs.gate_laws.libraries_are_described.Goals as goal

pub returns : goal.returns
returns c = described
