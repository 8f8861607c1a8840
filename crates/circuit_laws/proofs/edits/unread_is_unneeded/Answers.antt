use Rattle.circuit_laws.proofs.Kept.{unread_closed, others_latches}
use Rattle.circuit_laws.proofs.edits.unread_is_unneeded.Goals as goal

pub returns-clause-closed : goal.returns-clause-closed
returns-clause-closed c = unread_closed

pub returns-clause-latches : goal.returns-clause-latches
returns-clause-latches c = others_latches
