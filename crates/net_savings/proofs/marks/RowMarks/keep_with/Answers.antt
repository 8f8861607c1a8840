use Rattle.std.proofs.Common.{◌≡◌, List, length, map, sym, ap, ◌∙◌}
use Rattle.std.specs.List.{list_any}
use Rattle.std.specs.Simd.Lanes.{zip2}
use Rattle.std.proofs.lemmas.List.{length-map}
use Rattle.net_candidates.specs.Candidates.{same_literal}
use Rattle.cover_names.specs.Literals.{Cube}
use Rattle.net_savings.specs.Meeting.{both}
use Rattle.net_savings.proofs.marks.RowMarks.keep_with.Goals as goal

pub keep_common-requires-in-Some : goal.keep_common-requires-in-Some
keep_common-requires-in-Some c =
    let marks = c.self.invariant c.args.literal.now c.in-Some.marks.now (sym c.in-Some.ensures.value) in
    let is : c.as_slice-in-Some.result.now ≡ map (list_any (same_literal c.args.literal.now)) c.args.self.now =
    c.as_slice-in-Some.ensures.value ∙ (marks ∙ ap (λ (rows : List Cube). map (list_any (same_literal c.args.literal.now)) rows) c.self.view_is) in
    c.requires ∙ sym (ap length is ∙ length-map c.args.self.now (list_any (same_literal c.args.literal.now)))

pub returns-in-Some : goal.returns-in-Some
returns-in-Some c =
    let marks = c.self.invariant c.args.literal.now c.in-Some.marks.now (sym c.in-Some.ensures.value) in
    let is : c.as_slice-in-Some.result.now ≡ map (list_any (same_literal c.args.literal.now)) c.args.self.now =
    c.as_slice-in-Some.ensures.value ∙ (marks ∙ ap (λ (rows : List Cube). map (list_any (same_literal c.args.literal.now)) rows) c.self.view_is) in
    c.keep_common-in-Some.ensures ∙ ap (zip2 both c.args.held.now) is
