use Rattle.std.proofs.Common.{refl}
use Rattle.indexmap.specs.IndexMap.{get}
use Rattle.net_candidates.specs.Candidates.{same_literal}
use Rattle.net_savings.proofs.Marking.{no_marks}
use Rattle.net_savings.proofs.marks.RowMarks.by_names.Goals as goal

pub mark_names-requires : goal.mark_names-requires
mark_names-requires c = no_marks c.as_slice.result.now (get same_literal c.new-marks.result) (λ literal. rw c.new-marks.ensures.empty refl)
