use Rattle.circuit_tables.proofs.Folded.{folded_once, folded_reads, folded_keeps_reads, folded_same}
use Rattle.circuit_tables.proofs.fold_laws.folded_names_inputs_once.Goals as goal

pub returns-clause-different : goal.returns-clause-different
returns-clause-different c = folded_once

pub returns-clause-reads : goal.returns-clause-reads
returns-clause-reads c = folded_reads

pub returns-clause-keeps : goal.returns-clause-keeps
returns-clause-keeps c = folded_keeps_reads

pub returns-clause-same : goal.returns-clause-same
returns-clause-same c = folded_same
