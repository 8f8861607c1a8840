use Rattle.circuit_checks.proofs.Bridges.{led_from_on_cycle, on_cycle_from_led}
use Rattle.circuit_checks.proofs.laws.on_cycle_is_led_to.Goals as goal

pub returns : goal.returns
returns c = λ tables signal. ((λ h. led_from_on_cycle tables signal h), (λ w. on_cycle_from_led tables signal w.0 w.1))
