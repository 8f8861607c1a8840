use Rattle.circuit_laws.proofs.Tables.{each_itself, each_through, each_keeps}
use Rattle.circuit_laws.proofs.sameness.keeping_each.Goals as goal

pub returns-clause-itself : goal.returns-clause-itself
returns-clause-itself c = each_itself

pub returns-clause-through : goal.returns-clause-through
returns-clause-through c = each_through

pub returns-clause-keeps : goal.returns-clause-keeps
returns-clause-keeps c = each_keeps
