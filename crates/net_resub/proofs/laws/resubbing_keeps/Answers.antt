use Rattle.net_resub.proofs.Ends.{resubbed_one}
use Rattle.net_resub.proofs.RuleKeeping.{resubbed_refines}
use Rattle.net_resub.proofs.laws.resubbing_keeps.Goals as goal

pub returns-clause-refines : goal.returns-clause-refines
returns-clause-refines c = resubbed_refines

pub returns-clause-one : goal.returns-clause-one
returns-clause-one c = resubbed_one
