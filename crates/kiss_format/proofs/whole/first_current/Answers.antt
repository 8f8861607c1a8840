use Rattle.std.proofs.Common.{sym, ◌∙◌}
use Rattle.kiss_format.proofs.Firsts.{first_hit, first_on, first_done}
use Rattle.kiss_format.proofs.whole.first_current.Goals as goal

pub returns-in-Some : goal.returns-in-Some
returns-in-Some c =
    sym (c.loop-row.invariant ∙ first_hit c.args.rows.now c.row-item.result c.loop-row.row-index c.in-Some.state c.loop-row-test.true c.row-item.is c.in-Some.is)

pub loop-row-preserved : goal.loop-row-preserved
loop-row-preserved c =
    c.loop-row.invariant ∙ first_on c.args.rows.now c.row-item.result c.loop-row.row-index c.loop-row-test.true c.row-item.is c.in_default.is

pub returns : goal.returns
returns c = sym (c.loop-row.invariant ∙ first_done c.args.rows.now c.loop-row.row-index c.loop-row-test.false)
