use Rattle.circuit_laws.proofs.Tables.{obeying_mapped}
use Rattle.circuit_laws.proofs.edits.mapping_keeps_each.Goals as goal

pub returns : goal.returns
returns c = obeying_mapped
