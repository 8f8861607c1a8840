use Rattle.std.proofs.Common.{◌∙◌}
use Rattle.genlib_expr.proofs.Waiting.{step_taken, step_refused}
use Rattle.genlib_expr.proofs.reading.nodes_of.Goals as goal

pub returns-then-not-branch : goal.returns-then-not-branch
returns-then-not-branch c =
    step_refused c.args.tokens.now c.loop-token.token-index c.loop-token.reader c.step.new.self _ c.in_ok-step.field-0 c.loop-token-test.true c.in_ok-step.ensures c.if-not-branch.true ∙ c.loop-token.invariant

pub loop-token-preserved : goal.loop-token-preserved
loop-token-preserved c =
    step_taken c.args.tokens.now c.loop-token.token-index c.loop-token.reader c.step.new.self _ c.in_ok-step.field-0 c.loop-token-test.true c.in_ok-step.ensures c.if-not-branch.false ∙ c.loop-token.invariant
