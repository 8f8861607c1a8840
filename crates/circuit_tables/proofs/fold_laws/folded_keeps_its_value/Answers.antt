use Rattle.circuit_tables.proofs.Folded.{folded_value}
use Rattle.circuit_tables.proofs.fold_laws.folded_keeps_its_value.Goals as goal

pub returns : goal.returns
returns c = folded_value
