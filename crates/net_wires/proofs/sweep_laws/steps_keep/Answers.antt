use Rattle.net_wires.proofs.Chaining.{step_kept}
use Rattle.net_wires.proofs.Framed.{step_framed}
use Rattle.net_wires.proofs.Larger.{step_no_larger}
use Rattle.net_wires.proofs.Swept.{swept}
use Rattle.net_wires.proofs.sweep_laws.steps_keep.Goals as goal

pub returns-clause-kept : goal.returns-clause-kept
returns-clause-kept c = step_kept

pub returns-clause-frame : goal.returns-clause-frame
returns-clause-frame c = step_framed

pub returns-clause-sizes : goal.returns-clause-sizes
returns-clause-sizes c = step_no_larger

pub returns-clause-finished : goal.returns-clause-finished
returns-clause-finished c = swept
