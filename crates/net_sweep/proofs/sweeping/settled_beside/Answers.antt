use Rattle.std.proofs.Common.{sym, subst, None}
use Rattle.circuit_model.specs.declared.circuit.Circuit.{Circuit}
use Rattle.circuit_model.specs.Soundness.{IsSound}
use Rattle.net_wires.proofs.Carried.{on_value}
use Rattle.net_sweep.specs.Latches.{left_at, with_latches, IsReady, IsNextStep}
use Rattle.net_sweep.proofs.Stepping.{led_between}
use Rattle.net_sweep.proofs.sweeping.settled_beside.Goals as goal

pub settle-requires-clause-sound : goal.settle-requires-clause-sound
settle-requires-clause-sound g c = subst (λ (circuit : Circuit). IsSound (with_latches circuit (left_at c.args.tracked.now.slots.items))) (sym c.in_ok-aliased.ensures) c.requires.sound

pub settle-requires-clause-ready : goal.settle-requires-clause-ready
settle-requires-clause-ready g c = subst (IsReady c.args.tracked.now) (sym c.in_ok-aliased.ensures) c.requires.ready

pub returns-clause-led : goal.returns-clause-led
returns-clause-led g c =
    on_value c.into_circuit.result
    (λ end is. led_between c.in_ok-aliased.aliased c.args.circuit c.settle.new.aliased end c.args.tracked.now.slots.items c.settle.new.tracked.slots.items c.in_ok-settle.ensures.led c.in_ok-aliased.ensures is) c.into_circuit.ensures

pub returns-clause-next : goal.returns-clause-next
returns-clause-next g c =
    on_value c.into_circuit.result (λ end is. subst (λ (circuit : Circuit). IsNextStep circuit c.settle.new.tracked.slots.items None) (sym is) c.in_ok-settle.ensures.next) c.into_circuit.ensures
