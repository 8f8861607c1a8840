use Rattle.net_elim.proofs.Stepping.{chain_keeps, chain_refines, chain_finished}
use Rattle.net_elim.proofs.laws.chains_keep.Goals as goal

pub returns-clause-kept : goal.returns-clause-kept
returns-clause-kept c = chain_keeps

pub returns-clause-refines : goal.returns-clause-refines
returns-clause-refines c = chain_refines

pub returns-clause-finished : goal.returns-clause-finished
returns-clause-finished c = chain_finished
