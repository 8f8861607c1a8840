use Rattle.net_wires.proofs.Chaining.{chain_kept, chain_swept}
use Rattle.net_wires.proofs.Framed.{chain_framed}
use Rattle.net_wires.proofs.Larger.{chain_no_larger}
use Rattle.net_wires.proofs.sweep_laws.chains_keep.Goals as goal

pub returns-clause-kept : goal.returns-clause-kept
returns-clause-kept c = chain_kept

pub returns-clause-frame : goal.returns-clause-frame
returns-clause-frame c = chain_framed

pub returns-clause-sizes : goal.returns-clause-sizes
returns-clause-sizes c = chain_no_larger

pub returns-clause-finished : goal.returns-clause-finished
returns-clause-finished c = chain_swept
