use Rattle.cover_search.proofs.Satisfying.{intersects_by_literals}
use Rattle.cover_search.proofs.narrow.meets.Goals as goal

pub returns : goal.returns
returns g c = intersects_by_literals _ _ c.requires _ c.intersects.ensures
