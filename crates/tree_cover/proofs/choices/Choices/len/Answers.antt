use Rattle.std.proofs.Common.{length, sym, ap, ◌∙◌}
use Rattle.tree_cover.specs.declared.choice.Choice.{Choice}
use Rattle.std.specs.Prelude.{List}
use Rattle.tree_cover.proofs.Keeping.{choices_count}
use Rattle.tree_cover.proofs.choices.Choices.len.Goals as goal

pub returns : goal.returns
returns c =
    c.len.ensures
    ∙ (c.self.inside.costs.ok.0
    ∙ (sym (choices_count c.self.inside.costs.items c.self.inside.places.items c.self.inside.starts.items c.self.inside.pins.items c.self.invariant)
    ∙ ap (λ (cs : List Choice). length cs) c.self.view_is))
