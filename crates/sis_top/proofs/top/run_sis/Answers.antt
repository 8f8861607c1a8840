use Rattle.std.proofs.Common.{◌≡◌}
use Rattle.sis_outside.specs.Calls.{Follows, SinkWent, SourceWent, StoreWent}
use Rattle.sis_outside.specs.Counts.{Rose}
use Rattle.sis_top.specs.Asked.{options_of}
use Rattle.sis_top.specs.Call.{CountOf, IsCall, NamesFault}
use Rattle.sis_top.specs.declared.status.Status.TheVariants as status
use Rattle.sis_top.proofs.Calling.{called_more}
use Rattle.sis_top.proofs.Faults.{call_fault, call_usage, never_rises, none_counted, rose_by}
use Rattle.sis_top.proofs.Refusals.{call_refused}
use Rattle.sis_top.proofs.Serving.{call_completes}
use Rattle.sis_top.proofs.Statuses.{call_plain, same_count}
use Rattle.sis_top.proofs.top.run_sis.Goals as goal
use Rattle.sis_top.proofs.top.run_sis.Goals.{After-run_words}

-- what each object shows and counts, and which failed
told : (g : _) (c : After-run_words g)
    → IsCall (options_of c.args.words.now) (StoreWent g.S.Store.tells g.S.Store.files g.S.Store.faults g.S.Store.misses c.args.store.now c.run_words.new.store) (SourceWent g.I.Source.tells g.I.Source.left g.I.Source.faults c.args.input.now c.run_words.new.input)
    (SinkWent g.O.Sink.tells g.O.Sink.written g.O.Sink.faults c.args.out.now c.run_words.new.out) (SinkWent g.E.Sink.tells g.E.Sink.written g.E.Sink.faults c.args.err.now c.run_words.new.err) c.run_words.result
told g c =
    called_more (options_of c.args.words.now)
    (Follows g.S.Store.calls c.args.store.now c.run_words.new.store) (StoreWent g.S.Store.tells g.S.Store.files g.S.Store.faults g.S.Store.misses c.args.store.now c.run_words.new.store)
    (Follows g.I.Source.calls c.args.input.now c.run_words.new.input) (SourceWent g.I.Source.tells g.I.Source.left g.I.Source.faults c.args.input.now c.run_words.new.input)
    (Follows g.O.Sink.calls c.args.out.now c.run_words.new.out) (SinkWent g.O.Sink.tells g.O.Sink.written g.O.Sink.faults c.args.out.now c.run_words.new.out)
    (Follows g.E.Sink.calls c.args.err.now c.run_words.new.err) (SinkWent g.E.Sink.tells g.E.Sink.written g.E.Sink.faults c.args.err.now c.run_words.new.err)
    c.run_words.result (c.stores_went.ensures c.args.store.now c.run_words.new.store) (c.sources_went.ensures c.args.input.now c.run_words.new.input)
    (c.sinks_went.ensures c.args.out.now c.run_words.new.out) (c.sinks_went-2.ensures c.args.err.now c.run_words.new.err) c.run_words.ensures

failed : (g : _) (c : After-run_words g) → c.run_words.result ≡ status.Fault
    → NamesFault (CountOf (Rose (g.S.Store.faults c.args.store.now) (g.S.Store.faults c.run_words.new.store)) (Rose (g.I.Source.faults c.args.input.now) (g.I.Source.faults c.run_words.new.input))
    (Rose (g.O.Sink.faults c.args.out.now) (g.O.Sink.faults c.run_words.new.out)) (Rose (g.E.Sink.faults c.args.err.now) (g.E.Sink.faults c.run_words.new.err)))
    (Follows g.E.Sink.calls c.args.err.now c.run_words.new.err)
failed g c = λ fault.
    call_fault (options_of c.args.words.now) (Follows g.S.Store.calls c.args.store.now c.run_words.new.store) (Follows g.I.Source.calls c.args.input.now c.run_words.new.input)
    (Follows g.O.Sink.calls c.args.out.now c.run_words.new.out) (Follows g.E.Sink.calls c.args.err.now c.run_words.new.err) c.run_words.result
    (λ calls went some. rose_by _ _ _ some (c.stores_went.ensures c.args.store.now c.run_words.new.store calls went).0.counted)
    (λ calls went some. rose_by _ _ _ some (c.sources_went.ensures c.args.input.now c.run_words.new.input calls went).0.counted)
    (λ calls went some. rose_by _ _ _ some (c.sinks_went.ensures c.args.out.now c.run_words.new.out calls went).counted)
    (λ calls went some. rose_by _ _ _ some (c.sinks_went-2.ensures c.args.err.now c.run_words.new.err calls went).counted)
    c.run_words.ensures fault

pub returns-clause-told : goal.returns-clause-told
returns-clause-told g c = told g (goal.at.returns-clause-told g c).After-run_words

pub returns-clause-fault : goal.returns-clause-fault
returns-clause-fault g c = failed g (goal.at.returns-clause-fault g c).After-run_words

pub returns-clause-refused : goal.returns-clause-refused
returns-clause-refused g c = λ refused.
    call_refused (options_of c.args.words.now) (Follows g.S.Store.calls c.args.store.now c.run_words.new.store) (Follows g.I.Source.calls c.args.input.now c.run_words.new.input)
    (Follows g.O.Sink.calls c.args.out.now c.run_words.new.out) (Follows g.E.Sink.calls c.args.err.now c.run_words.new.err) c.run_words.result
    (λ calls went some. rose_by _ _ _ some (c.stores_went.ensures c.args.store.now c.run_words.new.store calls went).1.0)
    c.run_words.ensures refused

pub returns-clause-unfailed : goal.returns-clause-unfailed
returns-clause-unfailed g c = λ ended.
    let none = call_plain (options_of c.args.words.now) (StoreWent g.S.Store.tells g.S.Store.files g.S.Store.faults g.S.Store.misses c.args.store.now c.run_words.new.store) (SourceWent g.I.Source.tells g.I.Source.left g.I.Source.faults c.args.input.now c.run_words.new.input)
    (SinkWent g.O.Sink.tells g.O.Sink.written g.O.Sink.faults c.args.out.now c.run_words.new.out) (SinkWent g.E.Sink.tells g.E.Sink.written g.E.Sink.faults c.args.err.now c.run_words.new.err) c.run_words.result (told g (goal.at.returns-clause-unfailed g c).After-run_words) ended in (
      same_count _ _ _ none.store_none none.store_went.0.counted,
      same_count _ _ _ none.input_none none.input_went.0.counted,
      same_count _ _ _ none.out_none none.out_went.counted,
      same_count _ _ _ none.err_none none.err_went.counted,
    )

pub returns-clause-usage : goal.returns-clause-usage
returns-clause-usage g c = λ usage. call_usage (options_of c.args.words.now) (StoreWent g.S.Store.tells g.S.Store.files g.S.Store.faults g.S.Store.misses c.args.store.now c.run_words.new.store) (SourceWent g.I.Source.tells g.I.Source.left g.I.Source.faults c.args.input.now c.run_words.new.input)
    (SinkWent g.O.Sink.tells g.O.Sink.written g.O.Sink.faults c.args.out.now c.run_words.new.out) (SinkWent g.E.Sink.tells g.E.Sink.written g.E.Sink.faults c.args.err.now c.run_words.new.err) c.run_words.result (told g (goal.at.returns-clause-usage g c).After-run_words) usage

pub returns-clause-sure : goal.returns-clause-sure
returns-clause-sure g c = λ store input out err fault.
    let named = failed g (goal.at.returns-clause-sure g c).After-run_words fault in
    none_counted (never_rises g.S.Store.faults store c.args.store.now c.run_words.new.store) (never_rises g.I.Source.faults input c.args.input.now c.run_words.new.input)
    (never_rises g.O.Sink.faults out c.args.out.now c.run_words.new.out) (never_rises g.E.Sink.faults err c.args.err.now c.run_words.new.err) named.stop.what named.counted

pub returns-clause-complete : goal.returns-clause-complete
returns-clause-complete g c = λ shown left.
    call_completes (options_of c.args.words.now) (StoreWent g.S.Store.tells g.S.Store.files g.S.Store.faults g.S.Store.misses c.args.store.now c.run_words.new.store) (SourceWent g.I.Source.tells g.I.Source.left g.I.Source.faults c.args.input.now c.run_words.new.input)
    (SinkWent g.O.Sink.tells g.O.Sink.written g.O.Sink.faults c.args.out.now c.run_words.new.out) (SinkWent g.E.Sink.tells g.E.Sink.written g.E.Sink.faults c.args.err.now c.run_words.new.err) c.run_words.result
    (g.S.Store.files c.args.store.now) (g.I.Source.left c.args.input.now) (λ calls went. (g.S.Store.files c.run_words.new.store, went.0.contents shown))
    (λ asks calls went. (g.I.Source.left c.run_words.new.input, went.0.contents (left asks))) (told g (goal.at.returns-clause-complete g c).After-run_words)
