use Rattle.std.proofs.Common.{sym, ap, ◌∙◌}
use Rattle.std.specs.Prelude.{List, ℕ, slice_index_or}
use Rattle.tree_cover.specs.declared.choice.Choice.{Choice}
use Rattle.tree_cover.specs.Candidates.{cost_at as cost_there}
use Rattle.tree_cover.proofs.Keeping.{cost_in}
use Rattle.tree_cover.proofs.choices.Choices.cost.Goals as goal

pub returns : goal.returns
returns c =
    c.cost_at.ensures
    ∙ (ap (λ (xs : List ℕ). slice_index_or xs c.args.number 0) c.as_slice.ensures.value
    ∙ (sym (cost_in c.self.inside.costs.items c.self.inside.places.items c.self.inside.starts.items c.self.inside.pins.items c.self.invariant c.args.number)
    ∙ ap (λ (cs : List Choice). cost_there cs c.args.number) c.self.view_is))
