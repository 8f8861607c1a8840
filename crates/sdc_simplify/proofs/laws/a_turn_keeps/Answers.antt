use Rattle.sdc_simplify.proofs.InTurns.{turn_reduced, turn_extended, turn_each}
use Rattle.sdc_simplify.proofs.laws.a_turn_keeps.Goals as goal

pub returns-clause-reduced : goal.returns-clause-reduced
returns-clause-reduced c = turn_reduced

pub returns-clause-extended : goal.returns-clause-extended
returns-clause-extended c = turn_extended

pub returns-clause-each : goal.returns-clause-each
returns-clause-each c = turn_each
