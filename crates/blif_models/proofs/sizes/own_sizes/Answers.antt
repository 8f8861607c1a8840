use Rattle.std.proofs.Common.{◌∙◌, ap, ◌++◌, ◌∷◌, []}
use Rattle.blif_models.specs.Sizes.{own_size}
use Rattle.blif_models.proofs.ByIndex.{one_more}
use Rattle.blif_models.proofs.sizes.own_sizes.Goals as goal

pub loop-place-preserved : goal.loop-place-preserved
loop-place-preserved c =
    one_more (own_size c.args.file.now.models) c.loop-place.place c.loop-place.own.items c.push.new.self.items c.loop-place.invariant
    (c.in_ok-push.ensures.items ∙ ap (λ number. c.loop-place.own.items ++ number ∷ []) c.own_size.ensures)
