use Rattle.circuit_laws.proofs.Left.{left_itself, left_through, each_left, kept_left, fixed_left}
use Rattle.circuit_laws.proofs.edits.leaving_keeps.Goals as goal

pub returns-clause-itself : goal.returns-clause-itself
returns-clause-itself c = left_itself

pub returns-clause-through : goal.returns-clause-through
returns-clause-through c = left_through

pub returns-clause-each : goal.returns-clause-each
returns-clause-each c = each_left

pub returns-clause-dropped : goal.returns-clause-dropped
returns-clause-dropped c = kept_left

pub returns-clause-fixed : goal.returns-clause-fixed
returns-clause-fixed c = fixed_left
