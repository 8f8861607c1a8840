use Rattle.cover_min.proofs.Points.{has_point_is_point}
use Rattle.cover_min.proofs.laws.points_are_found.Goals as goal

pub returns : goal.returns
returns c = record { found = has_point_is_point }
