use Rattle.std.proofs.Common.{get_or, refl}
use Rattle.net_savings.proofs.Losing.{losses_next, narrow_next}
use Rattle.net_savings.proofs.saving.losses_at.Goals as goal

pub loop-place-preserved : goal.loop-place-preserved
loop-place-preserved g c =
    let loss = rw c.in-Some.is at c.in_ok-loss_at.ensures in
    record {
      total = losses_next c.args.name.now c.args.cover.now c.args.work.now.slots c.args.places.now c.loop-place.place-index (get_or c.args.places.now c.loop-place.place-index 0) 0 c.loop-place.total c.in-Some.lost
          c.in_ok-total-in-Some.total c.loop-place-test.true refl c.loop-place.invariant.total loss.0 c.in_ok-total-in-Some.ensures;
      narrow = narrow_next c.args.name.now c.args.cover.now c.args.work.now.slots c.args.places.now c.loop-place.place-index (get_or c.args.places.now c.loop-place.place-index 0) 0 c.loop-place-test.true refl
          c.loop-place.invariant.narrow loss.1;
    }
