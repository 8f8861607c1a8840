use Rattle.std.proofs.Common.{None, ◌∙◌}
use Rattle.net_queue.proofs.Order.{AreExact, rank_gone, rank_still, order_same, with_rank}
use Rattle.net_queue.proofs.changing.unrank.Given.{Over}
use Rattle.net_queue.proofs.changing.unrank.Goals as goal

exact : (g : Over) → AreExact g.K.PartialEq.eq g.R.Ord.cmp g.K.Ord.cmp
exact g = record { rank_total = g.met.R.Ord.total; key_total = g.met.K.Ord.total; ties = g.met.K.Ord.matches_eq; ranks_exact = g.met.P.Ranking.ranks_exact; keys_exact = g.met.P.Ranking.keys_exact }

pub returns-in-Some-clause-order : goal.returns-in-Some-clause-order
returns-in-Some-clause-order g c = λ ranks is has. rank_gone (exact g) ranks c.args.key c.args.order.now c.remove.new.self c.in-Some.rank is (has ∙ c.in-Some.is) c.remove.ensures.updates

pub returns-in-None-clause-order : goal.returns-in-None-clause-order
returns-in-None-clause-order g c = λ ranks is has.
    order_same (exact g) ranks (with_rank (exact g) ranks c.args.key None) c.args.order.now (rank_still (exact g) ranks c.args.key None (has ∙ c.in-None.is)) is
