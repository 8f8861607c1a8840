use Rattle.net_elim.proofs.RuleLeasts.{least_first, least_only}
use Rattle.net_elim.proofs.laws.least_is_first.Goals as goal

pub returns-clause-first : goal.returns-clause-first
returns-clause-first c = least_first

pub returns-clause-only : goal.returns-clause-only
returns-clause-only c = least_only
