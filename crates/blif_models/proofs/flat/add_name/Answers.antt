use Rattle.circuit_checks.specs.Sets.{with_name}
use Rattle.blif_models.proofs.flat.add_name.Goals as goal

pub returns : goal.returns
unfolding with_name
returns c = c.in_ok-_added.ensures.keys
