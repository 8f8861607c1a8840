use Rattle.net_decomp.proofs.PartedSteps.{decomposed_refines}
use Rattle.net_decomp.proofs.Ends.{decomposed_one, decomposed_not_full}
use Rattle.net_decomp.proofs.laws.decomposing_keeps.Goals as goal

pub returns-clause-refines : goal.returns-clause-refines
returns-clause-refines c = decomposed_refines

pub returns-clause-one : goal.returns-clause-one
returns-clause-one c = decomposed_one

pub returns-clause-full : goal.returns-clause-full
returns-clause-full c = decomposed_not_full
