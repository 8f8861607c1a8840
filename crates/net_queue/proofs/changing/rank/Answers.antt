use Rattle.std.proofs.Common.{sym, subst, ◌∙◌}
use Rattle.net_queue.specs.Queue.{IsOrder}
use Rattle.net_queue.proofs.Order.{AreExact, rank_come, rank_still, order_same, with_rank}
use Rattle.net_queue.proofs.changing.rank.Given.{Over}
use Rattle.net_queue.proofs.changing.rank.Goals as goal

exact : (g : Over) → AreExact g.K.PartialEq.eq g.R.Ord.cmp g.K.Ord.cmp
exact g = record { rank_total = g.met.R.Ord.total; key_total = g.met.K.Ord.total; ties = g.met.K.Ord.matches_eq; ranks_exact = g.met.P.Ranking.ranks_exact; keys_exact = g.met.P.Ranking.keys_exact }

pub returns-in_ok-insert : goal.returns-in_ok-insert
returns-in_ok-insert g c = λ ranks is has.
    subst (λ rank. IsOrder g.R.Ord.cmp g.K.Ord.cmp (with_rank (exact g) ranks c.args.key rank) c.insert.new.self) (sym c.in-Some.is)
    (rank_come (exact g) ranks c.args.key c.args.order.now c.insert.new.self c.in-Some.rank is has c.in_ok-insert.ensures.updates)

pub returns-in_default : goal.returns-in_default
returns-in_default g c = λ ranks is has.
    order_same (exact g) ranks (with_rank (exact g) ranks c.args.key c.args.rank) c.args.order.now (rank_still (exact g) ranks c.args.key c.args.rank (has ∙ sym c.in_default.is)) is
