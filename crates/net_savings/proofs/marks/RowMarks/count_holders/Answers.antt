use Rattle.std.proofs.Common.{Bool, ap, ◌∙◌}
use Rattle.net_candidates.specs.Pairs.{has_all}
use Rattle.net_candidates.specs.Spots.{many}
use Rattle.net_savings.proofs.Marking.{many_marked}
use Rattle.net_savings.proofs.marks.RowMarks.count_holders.Goals as goal

pub returns : goal.returns
returns c =
    c.count_set.ensures ∙ (ap (many (λ (mark : Bool). mark)) (c.as_slice.ensures.value ∙ c.in_ok-held.ensures) ∙ many_marked (has_all c.args.cube.now) c.args.self.now)
