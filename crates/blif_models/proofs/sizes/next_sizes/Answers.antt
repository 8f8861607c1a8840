use Rattle.std.proofs.Common.{◌∙◌, ap, ◌++◌, ◌∷◌, []}
use Rattle.blif_models.specs.Sizes.{next_size}
use Rattle.blif_models.proofs.ByIndex.{one_more}
use Rattle.blif_models.proofs.sizes.next_sizes.Goals as goal

pub loop-place-preserved : goal.loop-place-preserved
loop-place-preserved c =
    one_more (next_size c.args.own.now c.args.graph.now c.args.sizes.now) c.loop-place.place c.loop-place.next.items c.push.new.self.items c.loop-place.invariant
    (c.in_ok-push.ensures.items ∙ ap (λ number. c.loop-place.next.items ++ number ∷ []) c.next_size.ensures)
