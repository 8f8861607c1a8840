use Rattle.sis_outside.specs.Calls.{Follows}
use Rattle.sis_outside.specs.Recording.{IsRecorded, Records, calls_in, put_call, store_call, take_call}
use Rattle.sis_top.specs.Asked.{options_of}
use Rattle.sis_top.proofs.Calling.{called_more}
use Rattle.sis_top.proofs.top.run_recorded.Goals as goal

pub returns : goal.returns
returns g c =
    called_more (options_of c.args.words.now)
    (Follows (Records (λ r. calls_in store_call r.log) (λ r. r.inner) g.S.Store.calls) c.args.store.now c.run_sis.new.store)
    (IsRecorded (calls_in store_call c.args.store.now.log) (calls_in store_call c.run_sis.new.store.log))
    (Follows (Records (λ r. calls_in take_call r.log) (λ r. r.inner) g.I.Source.calls) c.args.input.now c.run_sis.new.input)
    (IsRecorded (calls_in take_call c.args.input.now.log) (calls_in take_call c.run_sis.new.input.log))
    (Follows (Records (λ r. calls_in put_call r.log) (λ r. r.inner) g.O.Sink.calls) c.args.out.now c.run_sis.new.out)
    (IsRecorded (calls_in put_call c.args.out.now.log) (calls_in put_call c.run_sis.new.out.log))
    (Follows (Records (λ r. calls_in put_call r.log) (λ r. r.inner) g.E.Sink.calls) c.args.err.now c.run_sis.new.err)
    (IsRecorded (calls_in put_call c.args.err.now.log) (calls_in put_call c.run_sis.new.err.log)) c.run_sis.result
    (λ calls went. (c.recordings_grow.ensures.store c.args.store.now c.run_sis.new.store calls went).0)
    (λ calls went. (c.recordings_grow.ensures.source c.args.input.now c.run_sis.new.input calls went).0)
    (λ calls went. (c.recordings_grow.ensures.sink c.args.out.now c.run_sis.new.out calls went).0)
    (λ calls went. (c.recordings_grow-2.ensures.sink c.args.err.now c.run_sis.new.err calls went).0) c.run_sis.ensures.call
