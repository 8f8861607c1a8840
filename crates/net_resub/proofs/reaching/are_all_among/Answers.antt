use Rattle.std.proofs.Common.{sym, ◌∙◌}
use Rattle.net_resub.proofs.Graph.{among_next}
use Rattle.net_resub.proofs.reaching.are_all_among.Goals as goal

pub loop-name-preserved : goal.loop-name-preserved
loop-name-preserved c =
    among_next c.args.names.now c.args.others.now c.loop-name.name-index c.name-item.result c.loop-name-test.true c.name-item.is c.loop-name.invariant (sym c.has_name.ensures ∙ c.if-not-has_name.false)
