use Rattle.std.proofs.Common.{refl}
use Rattle.blif_models.specs.Renaming.{looked_up}
use Rattle.blif_models.proofs.Actuals.{nothing_at, index_more}
use Rattle.blif_models.proofs.pairs.index_of.Goals as goal

pub loop-pair-init : goal.loop-pair-init
loop-pair-init c = nothing_at (looked_up c.new-actuals.result) (λ word. rw c.new-actuals.ensures.empty refl)

pub loop-pair-preserved : goal.loop-pair-preserved
loop-pair-preserved c =
    index_more c.args.pairs.now c.loop-pair.pair-index _ (looked_up c.loop-pair.actuals) (looked_up c.add_pair.new.actuals) c.loop-pair-test.true c.loop-pair.invariant c.in_ok-add_pair.ensures
