use Rattle.std.proofs.Common.{None, get_or, ap, length, arith}
use Rattle.subject_tree.specs.Order.{tree_cmp, place_cmp}
use Rattle.tree_cover.specs.Candidates.{order_of, FromPatterns}
use Rattle.tree_cover.specs.Held.{held}
use Rattle.tree_cover.proofs.Bests.{best_step, best_end}
use Rattle.tree_cover.proofs.Misfits.{better_none, misfit_best}
use Rattle.tree_cover.proofs.Ordered.{choices_ordered}
use Rattle.tree_cover.proofs.Stepping.{pattern_best, pattern_below}
use Rattle.tree_cover.proofs.covering.best_gate.Goals as goal

pub best_pattern-requires-clause-below : goal.best_pattern-requires-clause-below
best_pattern-requires-clause-below c =
    pattern_below c.args.shapes.now c.args.gate.now c.as_slice-pattern-items.result.now c.loop-pattern.pattern-index c.as_slice-pattern-items.ensures c.loop-pattern-test.true c.requires.gate

pub loop-pattern-preserved : goal.loop-pattern-preserved
loop-pattern-preserved c =
    best_step (order_of (tree_cmp (place_cmp c.args.leaves.now)) c.args.nodes.now) (choices_ordered c.args.leaves.now c.args.nodes.now) (FromPatterns c.args.nodes.now c.args.shapes.now c.args.choices.now c.args.gate.now c.args.place c.args.number)
    c.loop-pattern.pattern-index (held c.loop-pattern.best) (held c.in_ok-made.made) (held c.better-best.result) c.loop-pattern.invariant
    (pattern_best (order_of (tree_cmp (place_cmp c.args.leaves.now)) c.args.nodes.now) (choices_ordered c.args.leaves.now c.args.nodes.now) c.args.nodes.now c.args.shapes.now c.args.choices.now c.args.gate.now c.args.place c.args.number
    c.loop-pattern.pattern-index c.as_slice-pattern-items.result.now (held c.in_ok-made.made) c.as_slice-pattern-items.ensures c.loop-pattern-test.true c.in_ok-made.ensures) c.better-best.ensures

pub loop-pattern-preserved-then-not-is_open : goal.loop-pattern-preserved-then-not-is_open
loop-pattern-preserved-then-not-is_open c =
    best_step (order_of (tree_cmp (place_cmp c.args.leaves.now)) c.args.nodes.now) (choices_ordered c.args.leaves.now c.args.nodes.now) (FromPatterns c.args.nodes.now c.args.shapes.now c.args.choices.now c.args.gate.now c.args.place c.args.number)
    c.loop-pattern.pattern-index (held c.loop-pattern.best) None (held c.loop-pattern.best) c.loop-pattern.invariant
    (pattern_best (order_of (tree_cmp (place_cmp c.args.leaves.now)) c.args.nodes.now) (choices_ordered c.args.leaves.now c.args.nodes.now) c.args.nodes.now c.args.shapes.now c.args.choices.now c.args.gate.now c.args.place c.args.number
    c.loop-pattern.pattern-index c.as_slice-pattern-items.result.now None c.as_slice-pattern-items.ensures c.loop-pattern-test.true
    (misfit_best c.args.nodes.now c.sound.ensures (order_of (tree_cmp (place_cmp c.args.leaves.now)) c.args.nodes.now) c.args.shapes.now c.args.choices.now c.args.gate.now c.args.place c.args.number c.args.numbers.now c.args.marks.now
    (get_or c.as_slice-pattern-items.result.now c.loop-pattern.pattern-index 0) c.requires.marks (c.is_open.ensures c.if-not-is_open.true)))
    (better_none (order_of (tree_cmp (place_cmp c.args.leaves.now)) c.args.nodes.now) (held c.loop-pattern.best))

pub returns : goal.returns
returns c =
    best_end (order_of (tree_cmp (place_cmp c.args.leaves.now)) c.args.nodes.now) (choices_ordered c.args.leaves.now c.args.nodes.now) (FromPatterns c.args.nodes.now c.args.shapes.now c.args.choices.now c.args.gate.now c.args.place c.args.number)
    c.loop-pattern.pattern-index (length c.args.gate.now.patterns) (held c.loop-pattern.best) (omega (arith, ap length c.as_slice-pattern-items.ensures)) c.loop-pattern.invariant
