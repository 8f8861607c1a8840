use Rattle.std.proofs.Common.{subst}
use Rattle.net_queue.specs.Queue.{AreRanked, rank_in}
use Rattle.net_queue.proofs.Order.{AreExact, order_listed}
use Rattle.net_queue.proofs.queue.Queue.order.Given.{Over}
use Rattle.net_queue.proofs.queue.Queue.order.Goals as goal

exact : (g : Over) → AreExact g.K.PartialEq.eq g.R.Ord.cmp g.K.Ord.cmp
exact g = record { rank_total = g.met.R.Ord.total; key_total = g.met.K.Ord.total; ties = g.met.K.Ord.matches_eq; ranks_exact = g.met.P.Ranking.ranks_exact; keys_exact = g.met.P.Ranking.keys_exact }

pub returns : goal.returns
returns g c =
    subst (λ entries. AreRanked g.R.Ord.cmp g.K.Ord.cmp (rank_in g.K.PartialEq.eq g.P.Ranking.rank_of entries) c.self.inside.order.keys) c.self.view_is
    (order_listed (exact g) (rank_in g.K.PartialEq.eq g.P.Ranking.rank_of c.self.inside.values.entries) c.self.inside.order c.self.invariant c.len-ascending.ensures.ordered)
