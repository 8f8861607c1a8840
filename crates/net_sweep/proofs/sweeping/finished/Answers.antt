use Rattle.std.proofs.Common.{sym, subst}
use Rattle.circuit_model.specs.Soundness.{IsSound}
use Rattle.circuit_laws.specs.Chains.{Chain}
use Rattle.net_wires.specs.Rules.{sweep_step}
use Rattle.net_wires.proofs.Taking.{tables_differ, latches_differ}
use Rattle.net_sweep.proofs.Chaining.{next_led, next_falls, all_finished, led_through}
use Rattle.net_sweep.proofs.sweeping.finished.Goals as goal

pub loop-end-init : goal.loop-end-init
loop-end-init g c = (c.in_ok-begun.ensures.led, c.in_ok-begun.ensures.tables, c.in_ok-begun.ensures.latches)

pub dangling_step-requires-clause-tables_differ : goal.dangling_step-requires-clause-tables_differ
dangling_step-requires-clause-tables_differ g c = tables_differ c.loop-end.end.it c.loop-end.invariant.0.sound

pub dangling_step-requires-clause-latches_differ : goal.dangling_step-requires-clause-latches_differ
dangling_step-requires-clause-latches_differ g c = latches_differ c.loop-end.end.it c.loop-end.invariant.0.sound

pub settled-requires-in-Some : goal.settled-requires-in-Some
settled-requires-in-Some g c =
    (next_led c.args.circuit c.loop-end.end.it c.in-Some.next _ c.loop-end.invariant.0 c.loop-end.invariant.1 c.loop-end.invariant.2 c.in_ok-next.ensures c.in-Some.is).sound

pub loop-end-preserved : goal.loop-end-preserved
loop-end-preserved g c = (
  led_through c.args.circuit c.in-Some.next _ (next_led c.args.circuit c.loop-end.end.it c.in-Some.next _ c.loop-end.invariant.0 c.loop-end.invariant.1 c.loop-end.invariant.2 c.in_ok-next.ensures c.in-Some.is)
      c.in_ok-further.ensures.led,
  c.in_ok-further.ensures.tables,
  c.in_ok-further.ensures.latches,
)

pub loop-end-smaller : goal.loop-end-smaller
loop-end-smaller g c =
    next_falls c.args.circuit c.loop-end.end.it c.in-Some.next _ _ c.loop-end.invariant.0 c.loop-end.invariant.1 c.loop-end.invariant.2 c.in_ok-next.ensures c.in-Some.is c.in_ok-further.ensures.led

pub returns-clause-chain : goal.returns-clause-chain
returns-clause-chain g c =
    subst (Chain sweep_step c.args.circuit) (sym c.into_it.ensures)
    (all_finished c.args.circuit c.loop-end.end.it _ c.requires c.loop-end.invariant.0 c.loop-end.invariant.1 c.loop-end.invariant.2 c.in_ok-next.ensures c.in_default.is)

pub returns-clause-sound : goal.returns-clause-sound
returns-clause-sound g c = subst IsSound (sym c.into_it.ensures) c.loop-end.invariant.0.sound
