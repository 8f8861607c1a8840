use Rattle.circuit_laws.proofs.Tables.{obeying_turned}
use Rattle.circuit_laws.proofs.edits.replacing_keeps_each.Goals as goal

pub returns : goal.returns
returns c = obeying_turned
