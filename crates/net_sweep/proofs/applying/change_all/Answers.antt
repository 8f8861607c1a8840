use Rattle.std.proofs.Common.{refl}
use Rattle.net_sweep.specs.Settled.{changed_by}
use Rattle.net_sweep.proofs.Changing.{partly_none, partly_more, partly_wide, partly_ended, reads_listed, grown}
use Rattle.net_sweep.proofs.applying.change_all.Goals as goal

pub loop-place-init : goal.loop-place-init
loop-place-init c = partly_none (changed_by c.args.name.now c.args.change.now) c.args.aliased.now

pub change_at-requires : goal.change_at-requires
change_at-requires c = partly_wide c.args.name.now c.args.change.now _ c.args.aliased.now c.loop-place.aliased c.requires.sound c.loop-place.invariant

pub loop-place-preserved : goal.loop-place-preserved
loop-place-preserved c =
    partly_more c.args.name.now c.args.change.now _ _ _ c.args.aliased.now c.loop-place.aliased c.change_at.new.aliased c.requires.sound c.requires.apart c.loop-place.invariant c.in_ok-change_at.ensures.same c.in_ok-change_at.ensures.changed
    (grown c.args.places.now c.loop-place.place-index _ 0 c.loop-place-test.true refl)

pub returns : goal.returns
returns c =
    partly_ended c.args.name.now c.args.change.now c.args.places.now c.loop-place.place-index c.args.aliased.now c.loop-place.aliased c.loop-place-test.false c.loop-place.invariant
    (reads_listed c.args.aliased.now.tables c.args.name.now c.args.places.now c.requires.all)
