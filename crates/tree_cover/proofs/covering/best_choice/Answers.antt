use Rattle.std.proofs.Common.{length, arith}
use Rattle.subject_tree.specs.Order.{tree_cmp, place_cmp}
use Rattle.tree_cover.specs.Candidates.{order_of, FromGates}
use Rattle.tree_cover.specs.Held.{held}
use Rattle.tree_cover.proofs.Bests.{best_step, best_end}
use Rattle.tree_cover.proofs.Ordered.{choices_ordered}
use Rattle.tree_cover.proofs.Stepping.{gate_best}
use Rattle.tree_cover.proofs.covering.best_choice.Goals as goal

pub loop-place-preserved : goal.loop-place-preserved
loop-place-preserved c =
    best_step (order_of (tree_cmp (place_cmp c.args.leaves.now)) c.args.nodes.now) (choices_ordered c.args.leaves.now c.args.nodes.now) (FromGates c.args.nodes.now c.args.shapes.now c.args.choices.now c.args.gates.now c.args.number) c.loop-place.place
    (held c.loop-place.best) (held c.in_ok-made.made) (held c.better-best.result) c.loop-place.invariant
    (gate_best (order_of (tree_cmp (place_cmp c.args.leaves.now)) c.args.nodes.now) (choices_ordered c.args.leaves.now c.args.nodes.now) c.args.nodes.now c.args.shapes.now c.args.choices.now c.args.gates.now c.index-gates-place.result c.args.number
    c.loop-place.place (held c.in_ok-made.made) (omega arith) c.index-gates-place.is c.in_ok-made.ensures) c.better-best.ensures

pub returns : goal.returns
returns c =
    best_end (order_of (tree_cmp (place_cmp c.args.leaves.now)) c.args.nodes.now) (choices_ordered c.args.leaves.now c.args.nodes.now) (FromGates c.args.nodes.now c.args.shapes.now c.args.choices.now c.args.gates.now c.args.number) c.loop-place.place
    (length c.args.gates.now) (held c.loop-place.best) (omega arith) c.loop-place.invariant
