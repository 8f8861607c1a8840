use Rattle.circuit_laws.proofs.Tables.{added_same, added_keeps, added_value}
use Rattle.circuit_laws.proofs.edits.adding_is_same.Goals as goal

pub returns-clause-same : goal.returns-clause-same
returns-clause-same c = added_same

pub returns-clause-keeps : goal.returns-clause-keeps
returns-clause-keeps c = added_keeps

pub returns-clause-value : goal.returns-clause-value
returns-clause-value c = added_value
