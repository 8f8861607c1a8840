use Rattle.pattern_set.proofs.Postfix.{newest_patterns}
use Rattle.pattern_set.proofs.gathering.all_patterns.Goals as goal

pub returns-clause-ok : goal.returns-clause-ok
returns-clause-ok c =
    newest_patterns c.gather.new.arena c.settle_newest.new.arena c.args.expr.now c.nodes.result.now c.in_ok-waiting.waiting.items c.in_ok-made.made c.nodes.ensures.value c.in_ok-waiting.ensures.ok c.in_ok-made.ensures.ok
