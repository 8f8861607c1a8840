use Rattle.net_candidates.proofs.Ends.{best_one}
use Rattle.net_candidates.proofs.laws.best_is_one.Goals as goal

pub returns : goal.returns
returns c = best_one
