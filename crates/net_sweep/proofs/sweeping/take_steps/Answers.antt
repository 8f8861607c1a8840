use Rattle.net_sweep.specs.Settled.{is_candidate}
use Rattle.net_sweep.specs.Latches.{left_at, with_latches}
use Rattle.net_sweep.proofs.Latching.{sound_tables}
use Rattle.net_sweep.proofs.Stepping.{settling_itself, settling_more, settling_falls, behind_sound, none_next, led_on}
use Rattle.net_sweep.proofs.sweeping.take_steps.Goals as goal

pub loop-step-init : goal.loop-step-init
loop-step-init g c = settling_itself c.args.aliased.now c.args.tracked.now (is_candidate c.args.candidates.now) c.requires.sound c.requires.candidates c.requires.ready

pub next_step-requires-clause-sound : goal.next_step-requires-clause-sound
next_step-requires-clause-sound g c = sound_tables (with_latches c.loop-step.aliased (left_at c.loop-step.tracked.slots.items)) c.loop-step.invariant.led.sound

pub next_step-requires-clause-candidates : goal.next_step-requires-clause-candidates
next_step-requires-clause-candidates g c = c.loop-step.invariant.marked

pub next_step-requires-clause-ready : goal.next_step-requires-clause-ready
next_step-requires-clause-ready g c = c.loop-step.invariant.ready

pub empty_at_step-requires-clause-sound : goal.empty_at_step-requires-clause-sound
empty_at_step-requires-clause-sound g c =
    behind_sound (with_latches c.args.aliased.now (left_at c.args.tracked.now.slots.items)) c.loop-step.aliased c.take_step.new.aliased c.loop-step.tracked.slots.items c.next_step.new.tracked.slots.items c.take_step.new.tracked.slots.items
    c.loop-step.invariant.led c.in_ok-step.ensures.slots c.in_ok-take_step.ensures.stepped

pub loop-step-preserved : goal.loop-step-preserved
loop-step-preserved g c =
    settling_more (with_latches c.args.aliased.now (left_at c.args.tracked.now.slots.items)) c.loop-step.aliased c.take_step.new.aliased c.empty_at_step.new.aliased c.loop-step.tracked c.next_step.new.tracked c.take_step.new.tracked
    (is_candidate c.loop-step.candidates) (is_candidate c.take_step.new.candidates) c.loop-step.invariant c.in_ok-step.ensures.slots c.in_ok-take_step.ensures.stepped c.in_ok-empty_at_step.ensures.led
    (c.in_ok-empty_at_step.ensures.candidates (is_candidate c.take_step.new.candidates) c.in_ok-take_step.ensures.candidates) c.in_ok-empty_at_step.ensures.ready

pub loop-step-smaller : goal.loop-step-smaller
loop-step-smaller g c =
    settling_falls (with_latches c.args.aliased.now (left_at c.args.tracked.now.slots.items)) c.loop-step.aliased c.take_step.new.aliased c.empty_at_step.new.aliased c.loop-step.tracked.slots.items c.next_step.new.tracked.slots.items c.take_step.new.tracked.slots.items
    c.loop-step.invariant.led c.in_ok-step.ensures.slots c.in_ok-take_step.ensures.stepped c.in_ok-empty_at_step.ensures.led

pub returns-clause-led : goal.returns-clause-led
returns-clause-led g c =
    led_on (with_latches c.args.aliased.now (left_at c.args.tracked.now.slots.items)) c.loop-step.aliased c.loop-step.tracked.slots.items c.next_step.new.tracked.slots.items c.loop-step.invariant.led c.in_ok-step.ensures.slots

pub returns-clause-next : goal.returns-clause-next
returns-clause-next g c = none_next c.loop-step.aliased c.loop-step.tracked.slots.items c.next_step.new.tracked.slots.items c.in_ok-step.field-0 c.in_ok-step.ensures.next c.in_default.is c.in_ok-step.ensures.slots
