use Rattle.circuit_tables.proofs.Tidied.{tidied_tidy, tidied_same}
use Rattle.circuit_tables.proofs.tidy_laws.tidied_is_tidy.Goals as goal

pub returns-clause-tidy : goal.returns-clause-tidy
returns-clause-tidy c = tidied_tidy

pub returns-clause-same : goal.returns-clause-same
returns-clause-same c = tidied_same
