use Rattle.cover_min.proofs.Minima.{irredundant-minimum}
use Rattle.cover_min.proofs.laws.minimum_is_irredundant.Goals as goal

pub returns : goal.returns
returns c = irredundant-minimum
