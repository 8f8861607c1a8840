use Rattle.net_gains.proofs.Found.{gaining_candidate}
use Rattle.net_gains.proofs.pair_laws.what_gains_is_a_candidate.Goals as goal

pub returns : goal.returns
returns c = gaining_candidate
