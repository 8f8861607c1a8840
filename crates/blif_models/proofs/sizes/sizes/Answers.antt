use Rattle.std.proofs.Common.{◌∙◌}
use Rattle.blif_models.proofs.Rounds.{first_round, one_more_round}
use Rattle.blif_models.proofs.sizes.sizes.Goals as goal

pub loop-round-init : goal.loop-round-init
loop-round-init c =
    first_round c.args.file.now.models c.as_slice.result.now c.as_slice-2.result.now c.in_ok-sizes.sizes.items c.args.graph.now
    (c.as_slice.ensures.value ∙ c.in_ok-own.ensures) c.requires (c.as_slice-2.ensures.value ∙ c.new-none.ensures.items) c.in_ok-sizes.ensures

pub loop-round-preserved : goal.loop-round-preserved
loop-round-preserved c =
    one_more_round c.args.file.now.models c.as_slice-in-loop-round.result.now c.as_slice-in-loop-round-2.result.now c.in_ok-sizes-2.sizes.items c.args.graph.now c.loop-round._round
    (c.as_slice-in-loop-round.ensures.value ∙ c.in_ok-own.ensures) c.requires (c.as_slice-in-loop-round-2.ensures.value ∙ c.loop-round.invariant) c.in_ok-sizes-2.ensures
