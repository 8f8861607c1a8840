use Rattle.circuit_laws.proofs.Tables.{found_same}
use Rattle.circuit_laws.proofs.edits.reordering_keeps_each.Goals as goal

pub returns : goal.returns
returns c = found_same
