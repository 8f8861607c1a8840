use Rattle.net_wires.proofs.Closing.{needed_closed}
use Rattle.net_wires.proofs.Least.{needed_least}
use Rattle.net_wires.proofs.sweep_laws.needed_is_closed.Goals as goal

pub returns-clause-closed : goal.returns-clause-closed
returns-clause-closed c = needed_closed

pub returns-clause-least : goal.returns-clause-least
returns-clause-least c = needed_least
