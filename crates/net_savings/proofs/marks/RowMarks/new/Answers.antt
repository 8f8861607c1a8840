use Rattle.std.proofs.Common.{refl}
use Rattle.indexmap.specs.IndexMap.{get}
use Rattle.net_candidates.specs.Candidates.{same_literal}
use Rattle.net_savings.proofs.Marking.{no_marks}
use Rattle.net_savings.proofs.marks.RowMarks.new.Goals as goal

pub mark_rows-requires : goal.mark_rows-requires
mark_rows-requires c = no_marks c.as_slice.result.now (get same_literal c.new-marks.result) (λ literal. rw c.new-marks.ensures.empty refl)
