use Rattle.tree_cover.proofs.GateValuing.{written-value}
use Rattle.tree_cover.proofs.gate_laws.covers_have_values.Goals as goal

pub returns : goal.returns
returns c cmp library functions value driven t start signal gates described = written-value functions value driven cmp library described t start signal gates
