use Rattle.circuit_tables.proofs.Tidied.{tidied_shaped, tidied_output, tidied_reads, tidied_renamed}
use Rattle.circuit_tables.proofs.tidy_laws.tidied_is_shaped.Goals as goal

pub returns-clause-shaped : goal.returns-clause-shaped
returns-clause-shaped c = tidied_shaped

pub returns-clause-output : goal.returns-clause-output
returns-clause-output c = tidied_output

pub returns-clause-reads : goal.returns-clause-reads
returns-clause-reads c = tidied_reads

pub returns-clause-renamed : goal.returns-clause-renamed
returns-clause-renamed c = tidied_renamed
