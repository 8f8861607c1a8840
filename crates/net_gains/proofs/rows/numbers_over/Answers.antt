use Rattle.std.proofs.lemmas.Slice.Zip.{Zip-more, either_empty_from_Zip}
use Rattle.net_gains.proofs.Numbered.{from_more, from_all}
use Rattle.net_gains.proofs.rows.numbers_over.Goals as goal

pub loop-signal-preserved : goal.loop-signal-preserved
loop-signal-preserved c =
    let (first, second) = Zip-more c.loop-signal.signal-iterator c.next.new.self c.next.result (c.in-Some.signal, c.in-Some.place) c.in-Some.is c.next.ensures.steps in
    from_more c.in-Some.signal.now c.in-Some.place.now _ _ _ _ _ _ _ c.in_ok-add_number.ensures first second c.loop-signal.invariant

pub returns : goal.returns
returns c = from_all _ _ _ _ (either_empty_from_Zip c.loop-signal.signal-iterator c.next.new.self c.next.result c.in-None.is c.next.ensures.steps) c.loop-signal.invariant
