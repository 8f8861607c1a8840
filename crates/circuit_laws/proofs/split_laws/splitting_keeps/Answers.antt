use Rattle.circuit_laws.proofs.Splitting.{split_extended}
use Rattle.circuit_laws.proofs.split_laws.splitting_keeps.Goals as goal

pub returns : goal.returns
returns c = split_extended
