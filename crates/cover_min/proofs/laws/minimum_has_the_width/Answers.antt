use Rattle.cover_min.proofs.Minima.{HasWidth-minimum}
use Rattle.cover_min.proofs.laws.minimum_has_the_width.Goals as goal

pub returns : goal.returns
returns c = HasWidth-minimum
