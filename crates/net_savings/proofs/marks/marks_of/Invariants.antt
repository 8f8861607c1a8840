use Rattle.std.proofs.Common.{◌≡◌, map, take}
use Rattle.std.specs.List.{list_any}
use Rattle.net_candidates.specs.Candidates.{same_literal}
use Rattle.net_savings.proofs.marks.marks_of.Given as goal

abbrev pub invariant-loop-row : goal.invariant-loop-row
invariant-loop-row l = l.marks.items ≡ map (list_any (same_literal l.literal)) (take l.row-index l.rows)
