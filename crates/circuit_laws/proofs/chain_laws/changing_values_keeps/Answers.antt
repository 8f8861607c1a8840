use Rattle.circuit_laws.proofs.Changes.{each_reduced, each_extended}
use Rattle.circuit_laws.proofs.chain_laws.changing_values_keeps.Goals as goal

pub returns-clause-reduced : goal.returns-clause-reduced
returns-clause-reduced c = each_reduced

pub returns-clause-extended : goal.returns-clause-extended
returns-clause-extended c = each_extended
