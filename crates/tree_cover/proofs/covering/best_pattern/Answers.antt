use Rattle.std.proofs.Common.{sym, ◌∙◌}
use Rattle.subject_tree.specs.Arenas.{tree_at}
use Rattle.subject_tree.specs.Order.{tree_cmp, place_cmp}
use Rattle.tree_cover.specs.Candidates.{order_of}
use Rattle.tree_cover.specs.Held.{held}
use Rattle.tree_cover.proofs.Levels.{fit_proper, unfit_best}
use Rattle.tree_cover.proofs.Ordered.{choices_ordered}
use Rattle.tree_cover.proofs.Stepping.{match_best}
use Rattle.tree_cover.proofs.covering.best_pattern.Goals as goal

pub returns-then-not-may_fit : goal.returns-then-not-may_fit
returns-then-not-may_fit c =
    unfit_best c.args.nodes.now c.sound.ensures (order_of (tree_cmp (place_cmp c.args.leaves.now)) c.args.nodes.now) c.args.choices.now c.args.gate.now c.args.place c.args.number (tree_at c.args.shapes.now c.args.pattern)
    c.may_fit.result c.may_fit.ensures c.if-not-may_fit.true

pub returns : goal.returns
returns c =
    match_best (order_of (tree_cmp (place_cmp c.args.leaves.now)) c.args.nodes.now) (choices_ordered c.args.leaves.now c.args.nodes.now) c.args.nodes.now c.args.choices.now c.args.gate.now c.args.place c.args.number
    (tree_at c.args.shapes.now c.args.pattern) c.in_ok-bindings.bindings.items c.as_slice.result.now (held c.in_ok-best.best)
    (fit_proper (tree_at c.args.shapes.now c.args.pattern) (tree_at c.args.nodes.now c.args.number) (sym c.may_fit.ensures ∙ c.if-not-may_fit.false)) c.as_slice.ensures.value c.in_ok-bindings.ensures.grown c.in_ok-best.ensures
