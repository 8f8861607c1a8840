use Rattle.circuit_laws.proofs.Kept.{kept_same, kept_each}
use Rattle.circuit_laws.proofs.edits.dropping_tables_is_same.Goals as goal

pub returns-clause-same : goal.returns-clause-same
returns-clause-same c = kept_same

pub returns-clause-keeps : goal.returns-clause-keeps
returns-clause-keeps c = kept_each
