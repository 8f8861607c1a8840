use Rattle.tree_cover.proofs.Valuing.{gate-value}
use Rattle.tree_cover.proofs.laws.gates_have_values.Goals as goal

pub returns : goal.returns
returns c = gate-value
