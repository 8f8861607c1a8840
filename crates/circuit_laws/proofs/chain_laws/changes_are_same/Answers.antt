use Rattle.circuit_laws.proofs.Changes.{changed_same, changed_refines}
use Rattle.circuit_laws.proofs.chain_laws.changes_are_same.Goals as goal

pub returns-clause-same : goal.returns-clause-same
returns-clause-same c = changed_same

pub returns-clause-refines : goal.returns-clause-refines
returns-clause-refines c = changed_refines
