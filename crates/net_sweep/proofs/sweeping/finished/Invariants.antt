use Rattle.std.proofs.Common.{◌≡◌, None}
use Rattle.net_wires.specs.Rules.{fix_constant_latch}
use Rattle.net_wires.proofs.Weight.{weight}
use Rattle.net_sweep.specs.Settled.{table_step, HasLed}
use Rattle.net_sweep.proofs.sweeping.finished.Given as goal

abbrev pub invariant-loop-end : goal.invariant-loop-end
invariant-loop-end g l = HasLed l.fn.circuit l.end.it × (table_step l.end.it ≡ None) × (fix_constant_latch l.end.it ≡ None)

abbrev pub decreases-loop-end : goal.decreases-loop-end
decreases-loop-end g l = weight l.end.it
