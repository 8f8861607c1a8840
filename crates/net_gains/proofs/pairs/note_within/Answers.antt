use Rattle.std.proofs.Common.{◌+◌, ◌-◌, length, take, refl, sym, subst, drop}
use Rattle.std.specs.List.{sum_by}
use Rattle.net_gains.specs.Totals.{total_of}
use Rattle.net_gains.specs.Gains.{over_pairs}
use Rattle.net_gains.proofs.Pairing.{items_rest, pairs_rest, pairs_past}
use Rattle.net_gains.proofs.Summed.{all_at}
use Rattle.net_gains.proofs.Turned.{partly_begun, partly_allowed, partly_more, partly_ended}
use Rattle.net_gains.proofs.pairs.note_within.Goals as goal

pub loop-place-init : goal.loop-place-init
loop-place-init g c =
    partly_begun c.args.change (total_of c.args.totals.now) (λ cover. over_pairs (g.T.SavesInPairs.gain cover) c.args.items.now) (λ cover. over_pairs (g.T.SavesInPairs.gain cover) (drop 0 c.args.items.now)) (λ cover. refl)

pub note_beside-requires-clause-one : goal.note_beside-requires-clause-one
note_beside-requires-clause-one g c =
    subst g.T.SavesInPairs.Rises (sym c.index-items-place.is) (all_at g.T.SavesInPairs.Rises c.args.items.now c.loop-place.place c.index-items-place.result c.loop-place-test.true c.requires.items)

pub note_beside-requires-clause-others : goal.note_beside-requires-clause-others
note_beside-requires-clause-others g c = items_rest g.T.SavesInPairs.Rises c.args.items.now (c.loop-place.place + 1) c.requires.items

pub note_beside-requires-clause-allowed : goal.note_beside-requires-clause-allowed
note_beside-requires-clause-allowed g c =
    partly_allowed c.args.change (total_of c.args.totals.now) (total_of c.loop-place.totals) (λ cover. over_pairs (g.T.SavesInPairs.gain cover) c.args.items.now) (λ cover. over_pairs (g.T.SavesInPairs.gain cover) (drop c.loop-place.place c.args.items.now))
    (λ cover. sum_by (g.T.SavesInPairs.gain cover c.index-items-place.result) (take (length c.args.items.now - (c.loop-place.place + 1)) (drop (c.loop-place.place + 1) c.args.items.now)))
    (λ cover. over_pairs (g.T.SavesInPairs.gain cover) (drop (c.loop-place.place + 1) c.args.items.now)) c.requires.allowed c.loop-place.invariant
    (λ cover. pairs_rest (g.T.SavesInPairs.gain cover) c.args.items.now c.loop-place.place c.index-items-place.result c.index-items-place.result c.loop-place-test.true c.index-items-place.is)

pub loop-place-preserved : goal.loop-place-preserved
loop-place-preserved g c =
    partly_more c.args.change (total_of c.args.totals.now) (total_of c.loop-place.totals) (total_of c.note_beside.new.totals) (λ cover. over_pairs (g.T.SavesInPairs.gain cover) c.args.items.now) (λ cover. over_pairs (g.T.SavesInPairs.gain cover) (drop c.loop-place.place c.args.items.now))
    (λ cover. sum_by (g.T.SavesInPairs.gain cover c.index-items-place.result) (take (length c.args.items.now - (c.loop-place.place + 1)) (drop (c.loop-place.place + 1) c.args.items.now)))
    (λ cover. over_pairs (g.T.SavesInPairs.gain cover) (drop (c.loop-place.place + 1) c.args.items.now)) c.loop-place.invariant
    (λ cover. pairs_rest (g.T.SavesInPairs.gain cover) c.args.items.now c.loop-place.place c.index-items-place.result c.index-items-place.result c.loop-place-test.true c.index-items-place.is)
    c.in_ok-note_beside.ensures

pub returns : goal.returns
returns g c =
    partly_ended c.args.change (total_of c.args.totals.now) (total_of c.loop-place.totals) (λ cover. over_pairs (g.T.SavesInPairs.gain cover) c.args.items.now) (λ cover. over_pairs (g.T.SavesInPairs.gain cover) (drop c.loop-place.place c.args.items.now)) c.loop-place.invariant
    (λ cover. pairs_past (g.T.SavesInPairs.gain cover) c.args.items.now c.loop-place.place c.loop-place-test.false)
