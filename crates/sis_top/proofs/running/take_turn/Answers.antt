use Rattle.std.proofs.Common.{◌+◌, Ok, Err, sym, reverse}
use Rattle.sis_outside.specs.Calls.{Follows}
use Rattle.sis_top.specs.Code.{LandsAt, added_weight}
use Rattle.sis_top.proofs.Settling.{turned_command}
use Rattle.sis_top.proofs.Weighing.{lighter_turn}
use Rattle.sis_top.proofs.running.take_turn.Goals as goal

pub returns-in-Ok-clause-turned : goal.returns-in-Ok-clause-turned
returns-in-Ok-clause-turned g c = λ machine before at.
    turned_command c.args.goes_on machine c.args.due c.due.inside.command.line c.due.inside.depth c.due.inside.command.op c.args.session.now c.run_command-answer.new.session (reverse c.args.todo.now.items) before
    c.run_command-answer.result (Follows g.S.Store.calls c.args.store.now c.run_command-answer.new.store) (Follows g.O.Sink.calls c.args.out.now c.run_command-answer.new.out) (Follows g.E.Sink.calls c.args.err.now c.settle.new.err) (LandsAt c.run_command-answer.new.session (reverse c.settle.new.todo.items) before (Ok c.in-Ok.refused))
    (sym c.due.view_is) at c.run_command-answer.ensures.did c.run_command-answer.ensures.err
    (λ line deep there same. c.in-Ok.ensures.settled machine c.args.due c.run_command-answer.new.session before line deep there same)

pub returns-in-Ok-clause-lighter : goal.returns-in-Ok-clause-lighter
returns-in-Ok-clause-lighter g c =
    lighter_turn c.args.due c.due.inside.command.line c.due.inside.depth c.due.inside.command.op (reverse c.args.todo.now.items) (reverse c.settle.new.todo.items)
    (added_weight (c.due.inside.depth + 1) c.run_command-answer.result) (sym c.due.view_is) c.in-Ok.ensures.weight c.run_command-answer.ensures.lighter

pub returns-clause-turned : goal.returns-clause-turned
returns-clause-turned g c = λ machine before at.
    turned_command c.args.goes_on machine c.args.due c.due.inside.command.line c.due.inside.depth c.due.inside.command.op c.args.session.now c.run_command-answer.new.session (reverse c.args.todo.now.items) before
    c.run_command-answer.result (Follows g.S.Store.calls c.args.store.now c.run_command-answer.new.store) (Follows g.O.Sink.calls c.args.out.now c.run_command-answer.new.out) (Follows g.E.Sink.calls c.args.err.now c.settle.new.err) (LandsAt c.run_command-answer.new.session (reverse c.settle.new.todo.items) before (Err (record { line = c.due.inside.command.line; what = c.in-Err.what })))
    (sym c.due.view_is) at c.run_command-answer.ensures.did c.run_command-answer.ensures.err
    (λ line deep there same. c.in-Err.ensures.settled machine c.args.due c.run_command-answer.new.session before line deep there same)
