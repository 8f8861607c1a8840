use Rattle.std.proofs.Common.{ℕ, Bool, List, sym, ap, ◌∙◌, subst}
use Rattle.std.specs.Global.{Vec}
use Rattle.std.specs.List.{list_all}
use Rattle.alg_div.specs.Cubes.{Has}
use Rattle.net_savings.specs.Indexed.{marks_in}
use Rattle.net_readers.specs.Fanouts.{is_in}
use Rattle.net_savings.proofs.Marking.{marked_each}
use Rattle.net_savings.proofs.Told.{in_front, in_back}
use Rattle.net_savings.proofs.rows.RowIndex.met_places.Goals as goal

pub returns-clause-others : goal.returns-clause-others
returns-clause-others c = λ at h.
    c.each_once.ensures.all at
    (ap (λ (ps : List ℕ). is_in ps at) c.in_ok-extend_from_slice.ensures.items
    ∙ in_back c.in_ok-places.places.items _ at (ap (λ (ps : List ℕ). is_in ps at) c.as_slice-3.ensures.value ∙ h))

pub returns-clause-met : goal.returns-clause-met
returns-clause-met c = λ span m h.
    c.each_once.ensures.all span.place
    (ap (λ (ps : List ℕ). is_in ps span.place) c.in_ok-extend_from_slice.ensures.items
    ∙ in_front c.in_ok-places.places.items _ span.place (c.in_ok-places.ensures span (subst (Has span) (sym c.as_slice.ensures.value) m)
    (ap (list_all (λ (marks : Vec Bool). marks_in span marks.items)) c.as_slice-2.ensures.value ∙ marked_each c.args.self.now.rows span c.args.cover.now c.in_ok-lists.lists.items c.in_ok-lists.ensures h)))
