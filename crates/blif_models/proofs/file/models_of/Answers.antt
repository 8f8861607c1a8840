use Rattle.std.proofs.Common.{rules}
use Rattle.blif_models.proofs.LineRuns.{split_more, split_done}
use Rattle.blif_models.proofs.file.models_of.Goals as goal

pub loop-rest-preserved : goal.loop-rest-preserved
loop-rest-preserved c =
    rw c.in_ok-push.ensures.items
    (split_more c.args.text.now c.loop-rest.models.items _ c.loop-rest.rest.now _ c.model_len.result _ (search rules) c.model_len.ensures.count c.split_at.ensures.front c.split_at.ensures.back
    c.loop-rest.invariant)

pub returns : goal.returns
returns c = split_done c.args.text.now c.loop-rest.models.items c.loop-rest.rest.now _ (search rules) c.loop-rest.invariant
