use Rattle.sdc_simplify.proofs.InTurns.{simplified_reduced, simplified_extended, simplified_each, simplified_refines}
use Rattle.sdc_simplify.proofs.laws.simplifying_keeps.Goals as goal

pub returns-clause-reduced : goal.returns-clause-reduced
returns-clause-reduced c = simplified_reduced

pub returns-clause-extended : goal.returns-clause-extended
returns-clause-extended c = simplified_extended

pub returns-clause-each : goal.returns-clause-each
returns-clause-each c = simplified_each

pub returns-clause-refines : goal.returns-clause-refines
returns-clause-refines c = simplified_refines
