use Rattle.std.proofs.Common.{None, sym}
use Rattle.net_queue.specs.Queue.{rank_in}
use Rattle.net_queue.proofs.Order.{AreExact, ranks_with, order_same, with_rank}
use Rattle.net_queue.proofs.changing.take_at.Given.{Over}
use Rattle.net_queue.proofs.changing.take_at.Goals as goal

exact : (g : Over) → AreExact g.K.PartialEq.eq g.R.Ord.cmp g.K.Ord.cmp
exact g = record { rank_total = g.met.R.Ord.total; key_total = g.met.K.Ord.total; ties = g.met.K.Ord.matches_eq; ranks_exact = g.met.P.Ranking.ranks_exact; keys_exact = g.met.P.Ranking.keys_exact }

pub returns-in-Some-clause-order : goal.returns-in-Some-clause-order
returns-in-Some-clause-order g c =
    let old = rank_in g.K.PartialEq.eq g.P.Ranking.rank_of c.args.values.now.entries in
    order_same (exact g) (with_rank (exact g) old c.in-Some.own None) (rank_in g.K.PartialEq.eq g.P.Ranking.rank_of c.swap_remove_index.new.self.entries) c.unrank-own.new.order
    (ranks_with (exact g) g.P.Ranking.rank_of c.args.values.now.entries c.swap_remove_index.new.self.entries c.in-Some.own None c.in-Some.ensures.updates.0)
    (c.unrank-own.ensures.order old c.requires (c.rank_at-rank.ensures c.in-Some.own c.in-Some._value (sym c.in-Some.ensures.entry)))
