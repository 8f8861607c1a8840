use Rattle.circuit_checks.proofs.Walking.{cyclic_from_walk, walk_from_cyclic}
use Rattle.circuit_checks.proofs.graph_laws.cyclic_is_walked.Goals as goal

pub returns : goal.returns
returns c = λ graph place is_graph. ((λ h. walk_from_cyclic graph place h), (λ w. cyclic_from_walk graph is_graph place w.0 w.1))
