use Rattle.cover_ops.proofs.Compositions.{intersects_test}
use Rattle.cover_ops.proofs.composing.are_intersecting.Goals as goal

pub returns-clause-by_literals : goal.returns-clause-by_literals
returns-clause-by_literals g c = intersects_test _ _ c.intersects.result c.requires c.intersects.ensures
