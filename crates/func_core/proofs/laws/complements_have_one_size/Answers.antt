use Rattle.func_core.proofs.Meanings.{complement-size}
use Rattle.func_core.proofs.laws.complements_have_one_size.Goals as goal

pub returns : goal.returns
returns c = complement-size
