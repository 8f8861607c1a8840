use Rattle.net_wires.proofs.Weight.{weight}
use Rattle.net_sweep.specs.Settled.{is_candidate}
use Rattle.net_sweep.specs.Latches.{left_at, with_latches}
use Rattle.net_sweep.proofs.Stepping.{IsSettling}
use Rattle.net_sweep.proofs.sweeping.take_steps.Given as goal

abbrev pub invariant-loop-step : goal.invariant-loop-step
invariant-loop-step g l = IsSettling (with_latches l.fn.aliased (left_at l.fn.tracked.slots.items)) l.aliased l.tracked (is_candidate l.candidates)

abbrev pub decreases-loop-step : goal.decreases-loop-step
decreases-loop-step g l = weight (with_latches l.aliased (left_at l.tracked.slots.items))
