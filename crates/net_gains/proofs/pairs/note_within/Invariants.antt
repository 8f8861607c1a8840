use Rattle.std.proofs.Common.{drop}
use Rattle.net_gains.specs.Totals.{total_of}
use Rattle.net_gains.specs.Gains.{over_pairs}
use Rattle.net_gains.specs.Turning.{IsPartly}
use Rattle.net_gains.proofs.pairs.note_within.Given as goal

abbrev pub invariant-loop-place : goal.invariant-loop-place
invariant-loop-place g l = IsPartly l.change (total_of l.fn.totals) (total_of l.totals) (λ cover. over_pairs (g.T.SavesInPairs.gain cover) l.items) (λ cover. over_pairs (g.T.SavesInPairs.gain cover) (drop l.place l.items))
