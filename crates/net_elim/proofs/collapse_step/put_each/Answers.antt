use Rattle.std.proofs.Common.{get_or, refl}
use Rattle.std.proofs.lemmas.Result.{err_from_is_err_and}
use Rattle.net_elim.proofs.Turns.{put_begun, step_there, step_reader, step_apart, step_more, step_refused, put_ended, put_complete, none_complete}
use Rattle.net_elim.proofs.collapse_step.put_each.Goals as goal

pub loop-reader-init : goal.loop-reader-init
loop-reader-init g c = λ inner at. put_begun inner c.args.work.now

pub put_into-requires-clause-there : goal.put_into-requires-clause-there
put_into-requires-clause-there g c =
    step_there c.args.work.now c.loop-reader.work c.args.place c.args.readers.now c.loop-reader.reader-index (get_or c.args.readers.now c.loop-reader.reader-index 0)
    (record { sound = c.requires.sound; there = c.requires.there; exact = c.requires.exact; rising = c.requires.rising; long = c.loop-reader-test.true; is = refl; put = c.loop-reader.invariant })

pub put_into-requires-clause-reader : goal.put_into-requires-clause-reader
put_into-requires-clause-reader g c =
    step_reader c.args.work.now c.loop-reader.work c.args.place c.args.readers.now c.loop-reader.reader-index (get_or c.args.readers.now c.loop-reader.reader-index 0)
    (record { sound = c.requires.sound; there = c.requires.there; exact = c.requires.exact; rising = c.requires.rising; long = c.loop-reader-test.true; is = refl; put = c.loop-reader.invariant })

pub put_into-requires-clause-apart : goal.put_into-requires-clause-apart
put_into-requires-clause-apart g c =
    step_apart c.args.work.now c.loop-reader.work c.args.place c.args.readers.now c.loop-reader.reader-index (get_or c.args.readers.now c.loop-reader.reader-index 0)
    (record { sound = c.requires.sound; there = c.requires.there; exact = c.requires.exact; rising = c.requires.rising; long = c.loop-reader-test.true; is = refl; put = c.loop-reader.invariant })

pub returns-in_err-put_into-clause-fault : goal.returns-in_err-put_into-clause-fault
returns-in_err-put_into-clause-fault g c =
    let p = err_from_is_err_and c.from_residual.result c.from_residual.ensures.1 in
    rw (p.1, p.2)
    (step_refused c.args.work.now c.loop-reader.work c.args.place c.args.readers.now c.loop-reader.reader-index (get_or c.args.readers.now c.loop-reader.reader-index 0)
    (record { sound = c.requires.sound; there = c.requires.there; exact = c.requires.exact; rising = c.requires.rising; long = c.loop-reader-test.true; is = refl; put = c.loop-reader.invariant })
    c.in_err-put_into.field-0.0 c.in_err-put_into.ensures.fault)

pub loop-reader-preserved : goal.loop-reader-preserved
loop-reader-preserved g c =
    step_more c.args.work.now c.loop-reader.work c.put_into.new.work c.args.place c.args.readers.now c.loop-reader.reader-index (get_or c.args.readers.now c.loop-reader.reader-index 0)
    (record { sound = c.requires.sound; there = c.requires.there; exact = c.requires.exact; rising = c.requires.rising; long = c.loop-reader-test.true; is = refl; put = c.loop-reader.invariant })
    c.in_ok-put_into.ensures.put c.in_ok-put_into.ensures.within

pub returns-clause-put : goal.returns-clause-put
returns-clause-put g c = λ inner at.
    put_complete inner c.args.readers.now c.args.work.now c.loop-reader.work
    (put_ended inner c.args.readers.now c.loop-reader.reader-index c.args.work.now c.loop-reader.work (c.loop-reader.invariant inner at) c.loop-reader-test.false) (c.requires.exact inner at)

pub returns-clause-within : goal.returns-clause-within
returns-clause-within g c = λ inner at.
    none_complete inner c.args.readers.now c.args.work.now c.loop-reader.work
    (put_ended inner c.args.readers.now c.loop-reader.reader-index c.args.work.now c.loop-reader.work (c.loop-reader.invariant inner at) c.loop-reader-test.false) (c.requires.exact inner at)
