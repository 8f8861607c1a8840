use Rattle.blif_gates.proofs.Told.{valued}
use Rattle.blif_gates.proofs.laws.tables_have_the_functions_of_gates.Goals as goal

pub returns : goal.returns
returns c = valued
