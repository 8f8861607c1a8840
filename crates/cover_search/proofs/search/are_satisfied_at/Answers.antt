use Rattle.cover_search.proofs.Decided.{satisfied_at_point}
use Rattle.cover_search.proofs.search.are_satisfied_at.Goals as goal

pub returns-in-None : goal.returns-in-None
returns-in-None g c = λ t. satisfied_at_point (g.R.Row.literals c.args.row.now) c.args.constraints.now c.are_satisfied.result c.requires c.in-None.ensures c.are_satisfied.ensures t
