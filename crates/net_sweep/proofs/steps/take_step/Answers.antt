use Rattle.net_sweep.specs.Latches.{left_at, with_latches}
use Rattle.net_sweep.proofs.Changing.{on_ok_both}
use Rattle.net_sweep.proofs.Latching.{sound_tables}
use Rattle.net_sweep.proofs.Stepping.{applied_next, applied_within, applied_tidy, applied_stepped, fix_next, fix_stepped}
use Rattle.net_sweep.proofs.steps.take_step.Goals as goal

pub apply_to_tables-requires-clause-sound : goal.apply_to_tables-requires-clause-sound
apply_to_tables-requires-clause-sound g c = sound_tables (with_latches c.args.aliased.now (left_at c.args.tracked.now.slots.items)) c.requires.sound

pub apply_to_tables-requires-clause-within : goal.apply_to_tables-requires-clause-within
apply_to_tables-requires-clause-within g c =
    applied_within c.args.aliased.now c.in-Apply.rule c.in-Apply.place (applied_next c.args.aliased.now c.args.tracked.now.slots.items c.args.step c.in-Apply.rule c.in-Apply.place c.requires.next c.in-Apply.is)

pub apply_to_tables-requires-clause-tidy : goal.apply_to_tables-requires-clause-tidy
apply_to_tables-requires-clause-tidy g c =
    applied_tidy c.args.aliased.now c.in-Apply.rule c.in-Apply.place (applied_next c.args.aliased.now c.args.tracked.now.slots.items c.args.step c.in-Apply.rule c.in-Apply.place c.requires.next c.in-Apply.is)

pub returns-in-Apply-clause-stepped : goal.returns-in-Apply-clause-stepped
returns-in-Apply-clause-stepped g c =
    on_ok_both c.apply_to_tables.result
    (applied_stepped c.args.aliased.now c.apply_to_tables.new.aliased c.args.tracked.now.slots.items c.apply_to_tables.new.tracked.slots.items c.in-Apply.rule c.in-Apply.place
    (applied_next c.args.aliased.now c.args.tracked.now.slots.items c.args.step c.in-Apply.rule c.in-Apply.place c.requires.next c.in-Apply.is))
    c.apply_to_tables.ensures.applied c.apply_to_tables.ensures.slots

pub returns-in-Fix-clause-stepped : goal.returns-in-Fix-clause-stepped
returns-in-Fix-clause-stepped g c =
    on_ok_both c.fix.result
    (fix_stepped c.args.aliased.now c.fix.new.aliased c.args.tracked.now.slots.items c.fix.new.tracked.slots.items c.in-Fix.place c.in-Fix.bit c.requires.sound
    (fix_next c.args.aliased.now c.args.tracked.now.slots.items c.args.step c.in-Fix.place c.in-Fix.bit c.requires.next c.in-Fix.is))
    c.fix.ensures.fixed c.fix.ensures.slots
