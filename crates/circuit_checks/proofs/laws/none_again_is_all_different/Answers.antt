use Rattle.circuit_checks.proofs.Bridges.{different_from_again, again_from_different}
use Rattle.circuit_checks.proofs.laws.none_again_is_all_different.Goals as goal

pub returns : goal.returns
returns c = λ known names d. ((λ h. different_from_again known names d h), (λ h. again_from_different known names h))
