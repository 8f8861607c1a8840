use Rattle.std.proofs.Common.{refl}
use Rattle.sis_outside.specs.Calls.{Follows}
use Rattle.sis_top.specs.Asked.{options_in, options_of}
use Rattle.sis_top.proofs.Calling.{called_run, called_unused, called_wanting}
use Rattle.sis_top.proofs.top.run_words.Goals as goal

pub returns-in-Ok : goal.returns-in-Ok
returns-in-Ok g c =
    called_run (options_of c.args.words.now) (options_in c.in-Ok.options) (Follows g.S.Store.calls c.args.store.now c.run_options.new.store) (Follows g.I.Source.calls c.args.input.now c.run_options.new.input)
    (Follows g.O.Sink.calls c.args.out.now c.run_options.new.out) (Follows g.E.Sink.calls c.args.err.now c.run_options.new.err)
    c.run_options.result c.in-Ok.ensures.answers c.run_options.ensures

pub returns-in-Err-Usage : goal.returns-in-Err-Usage
returns-in-Err-Usage g c =
    called_unused (options_of c.args.words.now) (Follows g.S.Store.calls c.args.store.now c.args.store.now) (Follows g.I.Source.calls c.args.input.now c.args.input.now)
    (Follows g.O.Sink.calls c.args.out.now c.args.out.now) (Follows g.E.Sink.calls c.args.err.now c.tell_usage.new.err)
    c.tell_usage.result (rw c.in-Err-Usage.field-0-is at c.in-Err-Usage.ensures.answers) refl refl refl c.tell_usage.ensures

pub returns-in-Err-Memory : goal.returns-in-Err-Memory
returns-in-Err-Memory g c =
    called_wanting (options_of c.args.words.now) (Follows g.S.Store.calls c.args.store.now c.args.store.now) (Follows g.I.Source.calls c.args.input.now c.args.input.now)
    (Follows g.O.Sink.calls c.args.out.now c.args.out.now) (Follows g.E.Sink.calls c.args.err.now c.tell_stop.new.err)
    c.tell_stop.result refl refl refl c.tell_stop.ensures
