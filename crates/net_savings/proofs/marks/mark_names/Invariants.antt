use Rattle.indexmap.specs.IndexMap.{get}
use Rattle.net_candidates.specs.Candidates.{same_literal}
use Rattle.net_savings.specs.Meeting.{AreMarks}
use Rattle.net_savings.proofs.marks.mark_names.Given as goal

abbrev pub invariant-loop-name : goal.invariant-loop-name
invariant-loop-name l = AreMarks l.rows (get same_literal l.marks)

abbrev pub invariant-loop-bit : goal.invariant-loop-bit
invariant-loop-bit l = AreMarks l.rows (get same_literal l.marks)
