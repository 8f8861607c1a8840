use Rattle.tree_cover.proofs.Choosing.{given-least}
use Rattle.tree_cover.proofs.laws.given_choices_cost_least.Goals as goal

pub returns : goal.returns
returns c = given-least
