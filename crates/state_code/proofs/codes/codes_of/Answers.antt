use Rattle.std.proofs.Common.{◌∙◌}
use Rattle.state_code.proofs.Steps.{codes_more, codes_none}
use Rattle.state_code.proofs.codes.codes_of.Goals as goal

pub loop-number-init : goal.loop-number-init
loop-number-init c = c.in_ok-codes.ensures.items ∙ codes_none c.args.style c.args.width

pub loop-number-preserved : goal.loop-number-preserved
loop-number-preserved c =
    let more = codes_more c.args.style c.args.width c.loop-number.number c.args.states.now
    c.index-states-number.result c.loop-number-test.true c.index-states-number.is in
    cc (c.in_ok-push.ensures.items, c.in_ok-copy.ensures, c.in_ok-code_of.ensures)
