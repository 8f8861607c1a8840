use Rattle.cover_min.proofs.Minima.{minimum_same}
use Rattle.cover_min.proofs.laws.minimum_is_by_points.Goals as goal

pub returns : goal.returns
returns c = minimum_same
