use Rattle.odc_simplify.proofs.Kept.{fully_kept, fully_refines}
use Rattle.odc_simplify.proofs.laws.simplifying_fully_keeps.Goals as goal

pub returns-clause-kept : goal.returns-clause-kept
returns-clause-kept c = fully_kept

pub returns-clause-refines : goal.returns-clause-refines
returns-clause-refines c = fully_refines
