use Rattle.std.proofs.Common.{arith}
use Rattle.net_candidates.proofs.WithOthers.{found_step, found_all}
use Rattle.net_candidates.proofs.others.add_with_others.Goals as goal

pub loop-other-preserved : goal.loop-other-preserved
loop-other-preserved c =
    found_step c.args.cube.now c.args.others.now c.loop-other.other-index c.other-item.result c.in_ok-found.found c.args.made.now.keys c.loop-other.made.keys c.add_found.new.made.keys
    (omega arith) c.other-item.is c.in_ok-found.ensures c.loop-other.invariant c.in_ok-add_found.ensures

pub returns : goal.returns
returns c = found_all c.args.cube.now c.args.others.now c.loop-other.other-index c.args.made.now.keys c.loop-other.made.keys (omega arith) c.loop-other.invariant
