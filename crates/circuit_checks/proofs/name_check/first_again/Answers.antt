use Rattle.std.proofs.Common.{◌∙◌}
use Rattle.circuit_checks.proofs.Naming.{again_alike}
use Rattle.circuit_checks.proofs.name_check.first_again.Goals as goal

pub returns : goal.returns
returns c = c.in_ok-found.ensures ∙ again_alike c.in_ok-set.set c.args.known.now c.args.names.now c.in_ok-set.ensures
