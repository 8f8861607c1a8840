use Rattle.tree_cover.proofs.Keeping.{none_in}
use Rattle.tree_cover.proofs.choices.Choices.new.Goals as goal

pub returns : goal.returns
returns c = none_in c.new.result.items c.new-2.result.items c.new-3.result.items c.new-4.result.items c.new.ensures.items
