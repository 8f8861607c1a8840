use Rattle.std.proofs.Common.{◌∙◌, arith}
use Rattle.cube_packed.proofs.PlaneMasks.{append_more, append_ends}
use Rattle.cube_packed.proofs.words.append_without.Goals as goal

pub loop-place-preserved : goal.loop-place-preserved
loop-place-preserved c =
    c.in_ok-push.ensures.ok
    ∙ append_more c.args.made.now.items c.loop-place.made.items c.args.words.now c.args.masks.now c.loop-place.place c.requires (omega arith) c.loop-place.invariant

pub returns-clause-words : goal.returns-clause-words
returns-clause-words c = append_ends c.args.made.now.items c.loop-place.made.items c.args.words.now c.args.masks.now c.loop-place.place c.requires (omega arith) c.loop-place.invariant
