use Rattle.tree_cover.proofs.Usable.{gates-usable}
use Rattle.tree_cover.proofs.laws.gates_of_cells_are_usable.Goals as goal

pub returns : goal.returns
returns c = gates-usable
