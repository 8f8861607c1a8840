use Rattle.indexmap.specs.IndexMap.{get}
use Rattle.net_candidates.specs.Candidates.{same_literal}
use Rattle.net_savings.specs.Meeting.{AreMarks}
use Rattle.net_savings.proofs.marks.mark_rows.Given as goal

abbrev pub invariant-loop-row : goal.invariant-loop-row
invariant-loop-row l = AreMarks l.rows (get same_literal l.marks)
