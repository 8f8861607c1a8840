use Rattle.std.proofs.Common.{ℤ, subst, arith, w32}
use Rattle.std.proofs.lemmas.Int.{to_z-of_z}
use Rattle.net_elim.specs.Waiting.{AreWaiting}
use Rattle.net_elim.proofs.Steps.{begun_none, begun_more, begun_waiting}
use Rattle.net_elim.proofs.eliminating.all_worths.Goals as goal

pub loop-place-init : goal.loop-place-init
loop-place-init g c = begun_none _ c.args.work.now c.new-waiting.result c.new-waiting.ensures

pub loop-place-preserved : goal.loop-place-preserved
loop-place-preserved g c = begun_more _ c.args.work.now c.loop-place.place c.loop-place.waiting c.renew.new.waiting c.loop-place.invariant c.in_ok-renew.ensures

pub returns : goal.returns
returns g c = λ rows.
    subst (λ (t : ℤ). AreWaiting t rows c.args.work.now c.loop-place.waiting) (to_z-of_z w32 c.args.threshold c.ranges.threshold)
    (begun_waiting _ rows c.args.work.now c.loop-place.place c.loop-place.waiting (omega (arith, c.loop-place-test.false, c.len-place-end.ensures)) c.loop-place.invariant)
