use Rattle.std.proofs.Common.{refl, ◌∙◌, length, ap}
use Rattle.std.proofs.lemmas.List.{length-set}
use Rattle.circuit_order.proofs.Counting.{count_left, place_within, count_more}
use Rattle.circuit_order.proofs.counts.count_down.Goals as goal

pub take_one-requires : goal.take_one-requires
take_one-requires c =
    let some = count_left c.args.counts.now c.loop-place.counts c.args.places.now c.loop-place.place-index _ c.loop-place-test.true refl c.requires c.loop-place.invariant.1 in
    record { within = place_within c.loop-place.counts _ some; some = some }

pub loop-place-preserved : goal.loop-place-preserved
loop-place-preserved c =
    let some = count_left c.args.counts.now c.loop-place.counts c.args.places.now c.loop-place.place-index _ c.loop-place-test.true refl c.requires c.loop-place.invariant.1 in (
      ap length c.take_one.ensures ∙ (length-set c.loop-place.counts _ _ ∙ c.loop-place.invariant.0),
      count_more c.args.counts.now c.loop-place.counts c.take_one.new.counts c.args.places.now c.loop-place.place-index _ c.loop-place-test.true refl (place_within c.loop-place.counts _ some) c.take_one.ensures some c.loop-place.invariant.1,
    )
