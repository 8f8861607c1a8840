use Rattle.circuit_checks.specs.Sets.{with_name}
use Rattle.blif_lines.proofs.ports.add.Goals as goal

pub returns-clause-names : goal.returns-clause-names
unfolding with_name
returns-clause-names c = c.in_ok-insert.ensures.keys
