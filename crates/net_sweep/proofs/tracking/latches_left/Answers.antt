use Rattle.std.proofs.Common.{[], ◌∷◌, ◌++◌, sym, ap, ◌∙◌}
use Rattle.std.proofs.Common.{List}
use Rattle.circuit_model.specs.declared.circuit.Latch.{Latch}
use Rattle.net_sweep.specs.Latches.{left_at}
use Rattle.net_sweep.proofs.Enqueuing.{left_none, left_more}
use Rattle.net_sweep.proofs.tracking.latches_left.Goals as goal

pub loop-slot-init : goal.loop-slot-init
loop-slot-init c = c.new-made.ensures.items ∙ sym left_none

pub loop-slot-preserved : goal.loop-slot-preserved
loop-slot-preserved c =
    c.in_ok-push_left.ensures ∙ (ap (λ (ls : List Latch). ls ++ left_at (c.slot-item.result ∷ [])) c.loop-slot.invariant ∙ sym (left_more c.args.slots.now c.loop-slot.slot-index c.slot-item.result c.loop-slot-test.true c.slot-item.is))
