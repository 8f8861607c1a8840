use Rattle.std.proofs.Common.{◌∙◌}
use Rattle.tree_cover.proofs.Keeping.{choices_more}
use Rattle.tree_cover.proofs.choices.Choices.push.Goals as goal

pub returns-clause-ok : goal.returns-clause-ok
returns-clause-ok c =
    rw (c.put_cost.ensures, c.put.ensures, c.put-2.ensures, c.in_ok-extend_from_slice.ensures.items, c.in_ok-reserve.ensures.items, c.in_ok-reserve-2.ensures.items, c.in_ok-reserve-3.ensures.items, c.in_ok-place.ensures, ← c.self.view_is)
    (choices_more c.self.inside.costs.items c.self.inside.places.items c.self.inside.starts.items c.self.inside.pins.items c.args.pins.now c.args.cost c.args.place c.in_ok-start.start c.self.invariant (c.in_ok-start.ensures ∙ (c.len.ensures ∙ c.self.inside.pins.ok.0)))
