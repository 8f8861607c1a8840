use Rattle.func_core.proofs.Meanings.{not-both}
use Rattle.func_core.proofs.laws.fitting_functions_are_not_too_big.Goals as goal

pub returns : goal.returns
returns c = not-both
