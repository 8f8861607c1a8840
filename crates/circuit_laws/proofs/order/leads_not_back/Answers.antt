use Rattle.circuit_laws.proofs.Paths.{reached_apart, lower_apart, beside_apart}
use Rattle.circuit_laws.proofs.order.leads_not_back.Goals as goal

pub returns-clause-reached : goal.returns-clause-reached
returns-clause-reached c = reached_apart

pub returns-clause-lower : goal.returns-clause-lower
returns-clause-lower c = lower_apart

pub returns-clause-beside : goal.returns-clause-beside
returns-clause-beside c = beside_apart
