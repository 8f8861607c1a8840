use Rattle.std.proofs.Common.{sym, subst}
use Rattle.std.specs.Prelude.{None}
use Rattle.sis_outside.specs.Calls.{Follows}
use Rattle.sis_top.specs.Asked.{options_in}
use Rattle.sis_top.specs.Call.{IsRun}
use Rattle.sis_top.specs.declared.status.Status.{Status}
use Rattle.sis_top.proofs.Calling.{run_called, run_stopped}
use Rattle.sis_top.proofs.top.run_options.Goals as goal

pub returns-in-Ok : goal.returns-in-Ok
returns-in-Ok g c =
    subst (λ (status : Status). IsRun (options_in c.args.options).keep (options_in c.args.options).script (Follows g.S.Store.calls c.args.store.now c.run.new.store)
    (Follows g.I.Source.calls c.args.input.now c.run.new.input) (Follows g.O.Sink.calls c.args.out.now c.run.new.out) (Follows g.E.Sink.calls c.args.err.now c.run.new.err) status) (sym c.status_of.ensures)
    (run_called c.steps_keep_refinement.ensures.kept c.what_is_held_is_written.ensures.saved (record { text = c.what_is_held_is_written.ensures.put; areas = c.what_is_held_is_written.ensures.areas }) c.served_commands_are_done.ensures (c.steps_keep_refinement.ensures.begun None)
    (options_in c.args.options).keep (options_in c.args.options).script (Follows g.S.Store.calls c.args.store.now c.run.new.store)
    (Follows g.I.Source.calls c.args.input.now c.run.new.input) (Follows g.O.Sink.calls c.args.out.now c.run.new.out) (Follows g.E.Sink.calls c.args.err.now c.run.new.err)
    c.in-Ok.refused c.in-Ok.ensures)

pub returns-in-Err : goal.returns-in-Err
returns-in-Err g c =
    run_stopped c.steps_keep_refinement.ensures.kept c.what_is_held_is_written.ensures.saved (record { text = c.what_is_held_is_written.ensures.put; areas = c.what_is_held_is_written.ensures.areas }) c.served_commands_are_done.ensures (c.steps_keep_refinement.ensures.begun None)
    (options_in c.args.options).keep (options_in c.args.options).script (Follows g.S.Store.calls c.args.store.now c.run.new.store)
    (Follows g.I.Source.calls c.args.input.now c.run.new.input) (Follows g.O.Sink.calls c.args.out.now c.run.new.out) g.E.Sink.calls c.args.err.now c.run.new.err c.tell_stop.new.err
    c.in-Err.stop c.tell_stop.result c.in-Err.ensures c.tell_stop.ensures
