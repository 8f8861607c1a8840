use Rattle.std.proofs.Common.{refl, sym, subst}
use Rattle.net_wires.proofs.Taking.{tables_differ}
use Rattle.net_wires.proofs.Carried.{on_value}
use Rattle.net_sweep.specs.Settled.{HasLed}
use Rattle.net_sweep.specs.Latches.{left_at, with_latches}
use Rattle.net_sweep.proofs.Chaining.{led_through}
use Rattle.net_sweep.proofs.Stepping.{begun, settled_tables, settled_latches}
use Rattle.net_sweep.proofs.sweeping.settled.Goals as goal

pub tracked_latches-requires : goal.tracked_latches-requires
tracked_latches-requires g c = tables_differ c.args.circuit c.requires

pub settled_beside-requires-clause-sound : goal.settled_beside-requires-clause-sound
settled_beside-requires-clause-sound g c = (begun c.args.circuit c.in_ok-tracked.tracked.slots.items c.requires c.in_ok-tracked.ensures.left).sound

pub returns-clause-led : goal.returns-clause-led
returns-clause-led g c =
    on_value c.with_tracked_latches.result
    (λ end is. subst (HasLed c.args.circuit) (sym is)
    (led_through c.args.circuit (with_latches c.args.circuit (left_at c.in_ok-tracked.tracked.slots.items)) (with_latches c.in_ok-end.end (left_at c.settled_beside.new.tracked.slots.items))
    (begun c.args.circuit c.in_ok-tracked.tracked.slots.items c.requires c.in_ok-tracked.ensures.left) c.in_ok-end.ensures.led)) c.with_tracked_latches.ensures

pub returns-clause-tables : goal.returns-clause-tables
returns-clause-tables g c =
    on_value c.with_tracked_latches.result (λ end is. settled_tables c.in_ok-end.end c.in_ok-end.end end c.settled_beside.new.tracked.slots.items c.in_ok-end.ensures.next refl is) c.with_tracked_latches.ensures

pub returns-clause-latches : goal.returns-clause-latches
returns-clause-latches g c =
    on_value c.with_tracked_latches.result (λ end is. settled_latches c.in_ok-end.end c.in_ok-end.end end c.settled_beside.new.tracked.slots.items c.in_ok-end.ensures.next refl is) c.with_tracked_latches.ensures
