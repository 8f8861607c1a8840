use Rattle.std.proofs.Common.{arith, refl}
use Rattle.net_savings.proofs.Marking.{kept_more, kept_all}
use Rattle.net_savings.proofs.marks.keep_common.Goals as goal

pub loop-place-preserved : goal.loop-place-preserved
loop-place-preserved c =
    kept_more c.args.held.now c.args.others.now c.loop-place.held c.loop-place.place _ c.requires (omega arith) (omega arith) refl c.loop-place.invariant

pub returns : goal.returns
returns c =
    kept_all c.args.held.now c.args.others.now c.loop-place.held c.loop-place.place c.requires (omega arith) (omega arith) c.loop-place.invariant
