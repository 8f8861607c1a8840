use Rattle.std.proofs.Common.{◌+◌, refl, sym, subst, drop}
use Rattle.std.specs.List.{sum_by}
use Rattle.net_gains.specs.Totals.{total_of}
use Rattle.net_gains.proofs.Pairing.{sum_next, sum_past}
use Rattle.net_gains.proofs.Summed.{all_at}
use Rattle.net_gains.proofs.Turned.{partly_begun, partly_allowed, partly_more, partly_ended}
use Rattle.net_gains.proofs.pairs.note_across.Goals as goal

pub loop-item-init : goal.loop-item-init
loop-item-init g c =
    partly_begun c.args.change (total_of c.args.totals.now) (λ cover. sum_by (λ item. sum_by (g.T.SavesInPairs.gain cover item) c.args.others.now) c.args.items.now)
    (λ cover. sum_by (λ item. sum_by (g.T.SavesInPairs.gain cover item) c.args.others.now) (drop 0 c.args.items.now)) (λ cover. refl)

pub note_beside-requires-clause-one : goal.note_beside-requires-clause-one
note_beside-requires-clause-one g c =
    subst g.T.SavesInPairs.Rises (sym c.item-item.is) (all_at g.T.SavesInPairs.Rises c.args.items.now c.loop-item.item-index c.item-item.result c.loop-item-test.true c.requires.items)

pub note_beside-requires-clause-allowed : goal.note_beside-requires-clause-allowed
note_beside-requires-clause-allowed g c =
    partly_allowed c.args.change (total_of c.args.totals.now) (total_of c.loop-item.totals) (λ cover. sum_by (λ item. sum_by (g.T.SavesInPairs.gain cover item) c.args.others.now) c.args.items.now)
    (λ cover. sum_by (λ item. sum_by (g.T.SavesInPairs.gain cover item) c.args.others.now) (drop c.loop-item.item-index c.args.items.now)) (λ cover. sum_by (g.T.SavesInPairs.gain cover c.item-item.result) c.args.others.now)
    (λ cover. sum_by (λ item. sum_by (g.T.SavesInPairs.gain cover item) c.args.others.now) (drop (c.loop-item.item-index + 1) c.args.items.now)) c.requires.allowed c.loop-item.invariant
    (λ cover. sum_next (λ item. sum_by (g.T.SavesInPairs.gain cover item) c.args.others.now) c.args.items.now c.loop-item.item-index c.item-item.result c.item-item.result c.loop-item-test.true c.item-item.is)

pub loop-item-preserved : goal.loop-item-preserved
loop-item-preserved g c =
    partly_more c.args.change (total_of c.args.totals.now) (total_of c.loop-item.totals) (total_of c.note_beside.new.totals) (λ cover. sum_by (λ item. sum_by (g.T.SavesInPairs.gain cover item) c.args.others.now) c.args.items.now)
    (λ cover. sum_by (λ item. sum_by (g.T.SavesInPairs.gain cover item) c.args.others.now) (drop c.loop-item.item-index c.args.items.now)) (λ cover. sum_by (g.T.SavesInPairs.gain cover c.item-item.result) c.args.others.now)
    (λ cover. sum_by (λ item. sum_by (g.T.SavesInPairs.gain cover item) c.args.others.now) (drop (c.loop-item.item-index + 1) c.args.items.now)) c.loop-item.invariant
    (λ cover. sum_next (λ item. sum_by (g.T.SavesInPairs.gain cover item) c.args.others.now) c.args.items.now c.loop-item.item-index c.item-item.result c.item-item.result c.loop-item-test.true c.item-item.is)
    c.in_ok-note_beside.ensures

pub returns : goal.returns
returns g c =
    partly_ended c.args.change (total_of c.args.totals.now) (total_of c.loop-item.totals) (λ cover. sum_by (λ item. sum_by (g.T.SavesInPairs.gain cover item) c.args.others.now) c.args.items.now)
    (λ cover. sum_by (λ item. sum_by (g.T.SavesInPairs.gain cover item) c.args.others.now) (drop c.loop-item.item-index c.args.items.now)) c.loop-item.invariant
    (λ cover. sum_past (λ item. sum_by (g.T.SavesInPairs.gain cover item) c.args.others.now) c.args.items.now c.loop-item.item-index c.loop-item-test.false)
