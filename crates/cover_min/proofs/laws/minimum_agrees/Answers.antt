use Rattle.cover_min.proofs.Minima.{agrees-minimum}
use Rattle.cover_min.proofs.laws.minimum_agrees.Goals as goal

pub returns : goal.returns
returns c = agrees-minimum
