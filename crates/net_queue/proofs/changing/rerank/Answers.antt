use Rattle.std.proofs.Common.{◌≡◌, None, cond, sym, ap, subst, ◌∙◌}
use Rattle.std.proofs.lemmas.Result.{on_ok_weaker}
use Rattle.net_queue.specs.Queue.{IsOrder}
use Rattle.net_queue.proofs.Order.{AreExact, rank_renewed, rank_still, same_rank, order_same, with_rank}
use Rattle.net_queue.proofs.changing.rerank.Given.{Over}
use Rattle.net_queue.proofs.changing.rerank.Goals as goal

exact : (g : Over) → AreExact g.K.PartialEq.eq g.R.Ord.cmp g.K.Ord.cmp
exact g = record { rank_total = g.met.R.Ord.total; key_total = g.met.K.Ord.total; ties = g.met.K.Ord.matches_eq; ranks_exact = g.met.P.Ranking.ranks_exact; keys_exact = g.met.P.Ranking.keys_exact }

pub returns-then-eq : goal.returns-then-eq
returns-then-eq g c = λ ranks is has.
    order_same (exact g) ranks (with_rank (exact g) ranks c.args.key.now c.args.after) c.args.order.now
    (rank_still (exact g) ranks c.args.key.now c.args.after (has ∙ same_rank (exact g) g.met.R.Ord.matches_eq c.args.before c.args.after (sym c.eq.ensures ∙ c.if-eq.true))) is

pub returns : goal.returns
returns g c =
    on_ok_weaker c.rank.result
    (λ put ranks is has.
    subst (λ key. IsOrder g.R.Ord.cmp g.K.Ord.cmp (with_rank (exact g) ranks key c.args.after) c.rank.new.order) c.in_ok-copied.ensures
    (rank_renewed (exact g) ranks c.in_ok-copied.copied c.unrank-taken.new.order c.rank.new.order c.args.after (c.unrank-taken.ensures.order ranks is (ap ranks c.in_ok-copied.ensures ∙ has))
    (subst (λ key. (others : _) → IsOrder g.R.Ord.cmp g.K.Ord.cmp others c.unrank-taken.new.order → others key ≡ None → IsOrder g.R.Ord.cmp g.K.Ord.cmp (λ other. cond (g.K.PartialEq.eq key other) c.args.after (others other)) c.rank.new.order)
    c.unrank-taken.ensures.same put)))
    c.rank.ensures
