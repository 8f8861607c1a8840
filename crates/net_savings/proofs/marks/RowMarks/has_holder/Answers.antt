use Rattle.std.proofs.Common.{Bool, ap, ◌∙◌}
use Rattle.std.specs.List.{list_any}
use Rattle.net_candidates.specs.Pairs.{has_all}
use Rattle.net_savings.proofs.Marking.{any_marked}
use Rattle.net_savings.proofs.marks.RowMarks.has_holder.Goals as goal

pub returns : goal.returns
returns c =
    c.is_some_set.ensures ∙ (ap (list_any (λ (mark : Bool). mark)) (c.as_slice.ensures.value ∙ c.in_ok-held.ensures) ∙ any_marked (has_all c.args.cube.now) c.args.self.now)
