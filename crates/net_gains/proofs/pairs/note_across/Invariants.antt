use Rattle.std.proofs.Common.{drop}
use Rattle.std.specs.List.{sum_by}
use Rattle.net_gains.specs.Totals.{total_of}
use Rattle.net_gains.specs.Turning.{IsPartly}
use Rattle.net_gains.proofs.pairs.note_across.Given as goal

abbrev pub invariant-loop-item : goal.invariant-loop-item
invariant-loop-item g l =
    IsPartly l.change (total_of l.fn.totals) (total_of l.totals) (λ cover. sum_by (λ item. sum_by (g.T.SavesInPairs.gain cover item) l.others) l.items) (λ cover. sum_by (λ item. sum_by (g.T.SavesInPairs.gain cover item) l.others) (drop l.item-index l.items))
