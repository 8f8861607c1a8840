use Rattle.std.proofs.Common.{sym, ap, ◌∙◌}
use Rattle.std.specs.Prelude.{List, ℕ, slice_index_or}
use Rattle.tree_cover.specs.declared.choice.Choice.{Choice}
use Rattle.tree_cover.specs.Candidates.{choice_at}
use Rattle.tree_cover.proofs.Keeping.{place_in}
use Rattle.tree_cover.proofs.choices.Choices.place.Goals as goal

pub returns : goal.returns
returns c =
    c.place_at.ensures
    ∙ (ap (λ (xs : List ℕ). slice_index_or xs c.args.number 0) c.as_slice.ensures.value
    ∙ (sym (place_in c.self.inside.costs.items c.self.inside.places.items c.self.inside.starts.items c.self.inside.pins.items c.self.invariant c.args.number)
    ∙ ap (λ (cs : List Choice). (choice_at cs c.args.number).place) c.self.view_is))
