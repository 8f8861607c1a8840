use Rattle.std.proofs.Common.{ℤ, ℕ, List, take, subst, w32}
use Rattle.std.proofs.lemmas.Int.{to_z-of_z}
use Rattle.std.proofs.lemmas.List.{take_all}
use Rattle.net_elim.specs.Touching.{AreRenewed}
use Rattle.net_elim.proofs.Touched.{renewed_begun, renewed_more}
use Rattle.net_elim.proofs.eliminating.renew_all.Goals as goal

pub loop-place-init : goal.loop-place-init
loop-place-init g c = renewed_begun _ c.args.work.now c.args.waiting.now

pub loop-place-preserved : goal.loop-place-preserved
loop-place-preserved g c =
    renewed_more _ c.args.work.now c.args.places.now c.loop-place.place-index 0 c.args.waiting.now c.loop-place.waiting c.renew.new.waiting c.loop-place-test.true c.loop-place.invariant c.in_ok-renew.ensures

pub returns : goal.returns
returns g c =
    subst (λ (ps : List ℕ). AreRenewed c.args.threshold c.args.work.now ps c.args.waiting.now c.loop-place.waiting) (take_all c.loop-place.place-index c.args.places.now c.loop-place-test.false)
    (subst (λ (t : ℤ). AreRenewed t c.args.work.now (take c.loop-place.place-index c.args.places.now) c.args.waiting.now c.loop-place.waiting) (to_z-of_z w32 c.args.threshold c.ranges.threshold) c.loop-place.invariant)
