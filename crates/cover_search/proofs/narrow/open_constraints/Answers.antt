use Rattle.std.proofs.Common.{sym, ◌∙◌, arith}
use Rattle.cover_search.proofs.Satisfying.{left_none, left_next, hopeless_same}
use Rattle.cover_search.proofs.narrow.open_constraints.Goals as goal

pub loop-constraint-init : goal.loop-constraint-init
loop-constraint-init g c = rw c.new-left.ensures.items (left_none _)

pub returns-then-is_hopeless : goal.returns-then-is_hopeless
returns-then-is_hopeless g c =
    hopeless_same (g.R.Row.literals c.args.given.now) c.args.place c.args.constraints.now c.loop-constraint.constraint-index c.constraint-item.result c.in_ok-constraint_left.constraint_left c.requires (omega arith) c.constraint-item.is c.in_ok-constraint_left.ensures
    (sym c.verdict-known.ensures ∙ c.is_hopeless.ensures.0 c.if-is_hopeless.true)

pub loop-constraint-preserved : goal.loop-constraint-preserved
loop-constraint-preserved g c =
    left_next (g.R.Row.literals c.args.given.now) c.args.place c.args.constraints.now c.loop-constraint.left.items c.keep_open.new.left.items c.loop-constraint.constraint-index c.constraint-item.result c.in_ok-constraint_left.constraint_left c.verdict-known.result c.requires (omega arith) c.constraint-item.is
    c.in_ok-constraint_left.ensures c.verdict-known.ensures
    (λ e.
    let t = c.is_hopeless.ensures.1 e in
    cc)
    c.in_ok-keep_open.ensures c.loop-constraint.invariant
