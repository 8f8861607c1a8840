use Rattle.std.proofs.Common.{◌∙◌, arith}
use Rattle.blif_models.proofs.Rounds.{size_none, size_more}
use Rattle.blif_models.proofs.sizes.size_with.Goals as goal

pub loop-place-init : goal.loop-place-init
loop-place-init c = c.min-size.ensures ∙ size_none c.args.own c.args.sizes.now

pub loop-place-preserved : goal.loop-place-preserved
loop-place-preserved c =
    let more = c.number_at-more.ensures in
    let sum = c.saturating_add.ensures in
    let least = c.min-size-in-loop-place.ensures in
    size_more c.args.own c.args.sizes.now c.args.places.now c.loop-place.place-index c.loop-place.size c.min-size-in-loop-place.result
    c.loop-place-test.true c.loop-place.invariant (omega (arith, more, sum, least))
