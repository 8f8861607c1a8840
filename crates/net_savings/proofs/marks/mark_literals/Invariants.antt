use Rattle.indexmap.specs.IndexMap.{get}
use Rattle.net_candidates.specs.Candidates.{same_literal}
use Rattle.net_savings.specs.Meeting.{AreMarks}
use Rattle.net_savings.proofs.marks.mark_literals.Given as goal

abbrev pub invariant-loop-literal : goal.invariant-loop-literal
invariant-loop-literal l = AreMarks l.rows (get same_literal l.marks)
