use Rattle.tree_cover.proofs.Keeping.{none_in}
use Rattle.tree_cover.proofs.choices.Choices.with_capacity.Goals as goal

pub returns : goal.returns
returns c =
    none_in c.in_ok-with_capacity.field-0.items c.in_ok-with_capacity-2.field-0.items c.in_ok-with_capacity-3.field-0.items c.new.result.items c.in_ok-with_capacity.ensures.items
