use Rattle.circuit_tables.proofs.Tidied.{tidied_value}
use Rattle.circuit_tables.proofs.tidy_laws.tidied_keeps_its_value.Goals as goal

pub returns : goal.returns
returns c = tidied_value
