use Rattle.std.proofs.Common.{drop}
use Rattle.std.specs.List.{sum_by}
use Rattle.net_gains.specs.Totals.{total_of}
use Rattle.net_gains.specs.Turning.{IsPartly}
use Rattle.net_gains.proofs.pairs.note_beside.Given as goal

abbrev pub invariant-loop-other : goal.invariant-loop-other
invariant-loop-other g l =
    IsPartly l.change (total_of l.fn.totals) (total_of l.totals) (λ cover. sum_by (g.T.SavesInPairs.gain cover l.one) l.others) (λ cover. sum_by (g.T.SavesInPairs.gain cover l.one) (drop l.other-index l.others))
