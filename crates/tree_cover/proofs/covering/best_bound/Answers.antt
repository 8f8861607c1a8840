use Rattle.std.proofs.Common.{length, arith}
use Rattle.subject_tree.specs.Order.{tree_cmp, place_cmp}
use Rattle.tree_cover.specs.Candidates.{order_of, FromBindings}
use Rattle.tree_cover.specs.Held.{held}
use Rattle.tree_cover.proofs.Bests.{best_step, best_end}
use Rattle.tree_cover.proofs.Ordered.{choices_ordered}
use Rattle.tree_cover.proofs.Stepping.{single_best}
use Rattle.tree_cover.proofs.covering.best_bound.Goals as goal

pub loop-binding-preserved : goal.loop-binding-preserved
loop-binding-preserved c =
    best_step (order_of (tree_cmp (place_cmp c.args.leaves.now)) c.args.nodes.now) (choices_ordered c.args.leaves.now c.args.nodes.now) (FromBindings c.args.choices.now c.args.gate.now c.args.place c.args.bindings.now) c.loop-binding.binding-index
    (held c.loop-binding.best) (held c.in_ok-made.made) (held c.better-best.result) c.loop-binding.invariant
    (single_best (order_of (tree_cmp (place_cmp c.args.leaves.now)) c.args.nodes.now) (choices_ordered c.args.leaves.now c.args.nodes.now) c.args.choices.now c.args.gate.now c.args.place c.args.bindings.now c.loop-binding.binding-index _ (held c.in_ok-made.made)
    c.loop-binding-test.true c.in_ok-made.ensures.some c.in_ok-made.ensures.none) c.better-best.ensures

pub returns : goal.returns
returns c =
    best_end (order_of (tree_cmp (place_cmp c.args.leaves.now)) c.args.nodes.now) (choices_ordered c.args.leaves.now c.args.nodes.now) (FromBindings c.args.choices.now c.args.gate.now c.args.place c.args.bindings.now) c.loop-binding.binding-index
    (length c.args.bindings.now) (held c.loop-binding.best) (omega arith) c.loop-binding.invariant
