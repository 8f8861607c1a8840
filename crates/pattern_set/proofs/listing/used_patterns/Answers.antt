use Rattle.genlib_expr.specs.Formula.{formula_of}
use Rattle.pattern_set.proofs.Members.{lists_used, lists_unused}
use Rattle.pattern_set.proofs.listing.used_patterns.Goals as goal

pub returns-then-not-is_used-clause-ok : goal.returns-then-not-is_used-clause-ok
returns-then-not-is_used-clause-ok c =
    lists_unused c.args.arena.now (formula_of c.args.expr.now) c.is_used.result c.new.result c.is_used.ensures c.if-not-is_used.true c.new.ensures

pub returns-clause-ok : goal.returns-clause-ok
returns-clause-ok c =
    lists_used c.all_patterns.new.arena (formula_of c.args.expr.now) c.in_ok-all.all c.as_slice.result.now c.in_ok-made.made c.is_used.result c.is_used.ensures c.if-not-is_used.false c.in_ok-all.ensures.ok c.as_slice.ensures
    c.in_ok-made.ensures.once c.in_ok-made.ensures.same
