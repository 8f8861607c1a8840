use Rattle.std.proofs.Common.{◌≡◌, map, take}
use Rattle.net_candidates.specs.Pairs.{has_all}
use Rattle.net_savings.proofs.marks.RowMarks.holders.Given as goal

abbrev pub invariant-loop-literal : goal.invariant-loop-literal
invariant-loop-literal l = l.held.items ≡ map (has_all (take l.literal-index l.cube)) l.self
