use Rattle.pattern_set.proofs.Counting.{used_by, unused_by}
use Rattle.pattern_set.proofs.usage.is_used.Goals as goal

pub returns-then-not-has_constant : goal.returns-then-not-has_constant
returns-then-not-has_constant c =
    used_by c.args.expr.now c.nodes-nodes.result.now c.has_constant.result c.literals.result c.nodes-nodes.ensures.value c.nodes-nodes.ensures.order c.has_constant.ensures c.if-not-has_constant.true c.literals.ensures

pub returns-else-not-has_constant : goal.returns-else-not-has_constant
returns-else-not-has_constant c =
    unused_by c.args.expr.now c.nodes-nodes.result.now c.has_constant.result c.nodes-nodes.ensures.value c.nodes-nodes.ensures.order c.has_constant.ensures c.if-not-has_constant.false
