use Rattle.std.proofs.Common.{bit_and, ◌∙◌, arith}
use Rattle.cube_packed.proofs.PlaneLoops.{made_more, made_ends}
use Rattle.cube_packed.proofs.words.common.Goals as goal

pub loop-place-preserved : goal.loop-place-preserved
loop-place-preserved c =
    c.in_ok-push.ensures.ok
    ∙ made_more bit_and c.loop-place.made.items c.args.words.now c.args.others.now c.loop-place.place c.requires (omega arith) c.loop-place.invariant

pub returns : goal.returns
returns c = made_ends bit_and c.loop-place.made.items c.args.words.now c.args.others.now c.loop-place.place c.requires (omega arith) c.loop-place.invariant
