use Rattle.circuit_checks.proofs.Bridges.{known_from_missing, missing_from_known}
use Rattle.circuit_checks.proofs.laws.none_missing_is_all_known.Goals as goal

pub returns : goal.returns
returns c = λ known names. ((λ h. known_from_missing known names h), (λ h. missing_from_known known names h))
