use Rattle.std.proofs.Common.{◌+◌, refl, sym, subst, drop}
use Rattle.std.specs.List.{sum_by}
use Rattle.net_gains.specs.Totals.{total_of}
use Rattle.net_gains.proofs.Pairing.{sum_next, sum_past}
use Rattle.net_gains.proofs.Summed.{all_at}
use Rattle.net_gains.proofs.Turned.{partly_begun, partly_allowed, partly_more, partly_ended}
use Rattle.net_gains.proofs.pairs.note_beside.Goals as goal

pub loop-other-init : goal.loop-other-init
loop-other-init g c =
    partly_begun c.args.change (total_of c.args.totals.now) (λ cover. sum_by (g.T.SavesInPairs.gain cover c.args.one.now) c.args.others.now)
    (λ cover. sum_by (g.T.SavesInPairs.gain cover c.args.one.now) (drop 0 c.args.others.now)) (λ cover. refl)

pub note_pair-requires-clause-other : goal.note_pair-requires-clause-other
note_pair-requires-clause-other g c =
    subst g.T.SavesInPairs.Rises (sym c.other-item.is) (all_at g.T.SavesInPairs.Rises c.args.others.now c.loop-other.other-index c.other-item.result c.loop-other-test.true c.requires.others)

pub note_pair-requires-clause-allowed : goal.note_pair-requires-clause-allowed
note_pair-requires-clause-allowed g c =
    partly_allowed c.args.change (total_of c.args.totals.now) (total_of c.loop-other.totals) (λ cover. sum_by (g.T.SavesInPairs.gain cover c.args.one.now) c.args.others.now)
    (λ cover. sum_by (g.T.SavesInPairs.gain cover c.args.one.now) (drop c.loop-other.other-index c.args.others.now)) (λ cover. g.T.SavesInPairs.gain cover c.args.one.now c.other-item.result)
    (λ cover. sum_by (g.T.SavesInPairs.gain cover c.args.one.now) (drop (c.loop-other.other-index + 1) c.args.others.now)) c.requires.allowed c.loop-other.invariant
    (λ cover. sum_next (g.T.SavesInPairs.gain cover c.args.one.now) c.args.others.now c.loop-other.other-index c.other-item.result c.other-item.result c.loop-other-test.true c.other-item.is)

pub loop-other-preserved : goal.loop-other-preserved
loop-other-preserved g c =
    partly_more c.args.change (total_of c.args.totals.now) (total_of c.loop-other.totals) (total_of c.note_pair.new.totals) (λ cover. sum_by (g.T.SavesInPairs.gain cover c.args.one.now) c.args.others.now)
    (λ cover. sum_by (g.T.SavesInPairs.gain cover c.args.one.now) (drop c.loop-other.other-index c.args.others.now)) (λ cover. g.T.SavesInPairs.gain cover c.args.one.now c.other-item.result)
    (λ cover. sum_by (g.T.SavesInPairs.gain cover c.args.one.now) (drop (c.loop-other.other-index + 1) c.args.others.now)) c.loop-other.invariant
    (λ cover. sum_next (g.T.SavesInPairs.gain cover c.args.one.now) c.args.others.now c.loop-other.other-index c.other-item.result c.other-item.result c.loop-other-test.true c.other-item.is)
    c.in_ok-note_pair.ensures

pub returns : goal.returns
returns g c =
    partly_ended c.args.change (total_of c.args.totals.now) (total_of c.loop-other.totals) (λ cover. sum_by (g.T.SavesInPairs.gain cover c.args.one.now) c.args.others.now)
    (λ cover. sum_by (g.T.SavesInPairs.gain cover c.args.one.now) (drop c.loop-other.other-index c.args.others.now)) c.loop-other.invariant
    (λ cover. sum_past (g.T.SavesInPairs.gain cover c.args.one.now) c.args.others.now c.loop-other.other-index c.loop-other-test.false)
