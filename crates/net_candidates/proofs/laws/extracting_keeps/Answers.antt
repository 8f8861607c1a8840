use Rattle.net_candidates.proofs.RuleKeeping.{extracted_refines}
use Rattle.net_candidates.proofs.Ends.{extracted_one, extracted_not_full, extracted_not_unlistable, full_not_unlistable, unlistable_one}
use Rattle.net_candidates.proofs.laws.extracting_keeps.Goals as goal

pub returns-clause-refines : goal.returns-clause-refines
returns-clause-refines c = extracted_refines

pub returns-clause-one : goal.returns-clause-one
returns-clause-one c = extracted_one

pub returns-clause-full : goal.returns-clause-full
returns-clause-full c = extracted_not_full

pub returns-clause-listed : goal.returns-clause-listed
returns-clause-listed c = extracted_not_unlistable

pub returns-clause-apart : goal.returns-clause-apart
returns-clause-apart c = full_not_unlistable

pub returns-clause-first : goal.returns-clause-first
returns-clause-first c = unlistable_one
