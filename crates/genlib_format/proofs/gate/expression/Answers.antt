use Rattle.std.proofs.Common.{Err, refl, ap}
use Rattle.genlib_format.proofs.Spelled.{nodes_read, none_read}
use Rattle.genlib_format.proofs.gate.expression.Goals as goal

pub returns-in-Ok : goal.returns-in-Ok
returns-in-Ok c =
    (nodes_read c.args.text.now c.in-Ok.parsed.expr c.nodes-nodes.ensures.order c.in-Ok.ensures.spelled, c.in-Ok.ensures.pins, c.in-Ok.ensures.depth)

pub returns-in-Err-Bad : goal.returns-in-Err-Bad
returns-in-Err-Bad c = (none_read c.args.text.now (c.in-Err-Bad.ensures.bad (ap Err c.in-Err-Bad.field-0-is)), refl)
