use Rattle.std.proofs.Common.{arith}
use Rattle.subject_tree.specs.Order.{tree_cmp, place_cmp}
use Rattle.tree_cover.proofs.Comparing.{lengths_tell}
use Rattle.tree_cover.proofs.choice.compare_pins.Goals as goal

pub returns : goal.returns
returns c =
    lengths_tell (tree_cmp (place_cmp c.args.leaves.now)) c.args.nodes.now c.args.one.now c.args.other.now c.loop-place.place c.cmp.result _ (omega arith) c.cmp.ensures c.loop-place.invariant.same
