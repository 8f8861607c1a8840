use Rattle.kiss_format.proofs.Sound.{read_limited}
use Rattle.kiss_format.proofs.laws.read_machine_is_small.Goals as goal

pub returns : goal.returns
returns c = read_limited
