use Rattle.circuit_checks.proofs.Bridges.{acyclic_from_none, none_from_acyclic}
use Rattle.circuit_checks.proofs.laws.none_on_cycle_is_acyclic.Goals as goal

pub returns : goal.returns
returns c = λ tables. ((λ h. acyclic_from_none tables h), (λ h. none_from_acyclic tables h))
