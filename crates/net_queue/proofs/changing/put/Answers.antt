use Rattle.std.proofs.Common.{Some, None, cond, sym, ap, ◌∙◌}
use Rattle.std.specs.Option.{option_map_or}
use Rattle.net_queue.specs.Queue.{rank_in}
use Rattle.net_queue.proofs.Order.{AreExact, ranks_with, order_same, with_rank}
use Rattle.net_queue.proofs.changing.put.Given.{Over}
use Rattle.net_queue.proofs.changing.put.Goals as goal

exact : (g : Over) → AreExact g.K.PartialEq.eq g.R.Ord.cmp g.K.Ord.cmp
exact g = record { rank_total = g.met.R.Ord.total; key_total = g.met.K.Ord.total; ties = g.met.K.Ord.matches_eq; ranks_exact = g.met.P.Ranking.ranks_exact; keys_exact = g.met.P.Ranking.keys_exact }

pub returns-clause-order : goal.returns-clause-order
returns-clause-order g c =
    order_same (exact g) (with_rank (exact g) (rank_in g.K.PartialEq.eq g.P.Ranking.rank_of c.args.values.now.entries) c.args.key.now c.rank.result) (rank_in g.K.PartialEq.eq g.P.Ranking.rank_of c.set_value.new.values.entries) c.rerank.new.order
    (λ other.
    ap (λ rank. cond (g.K.PartialEq.eq c.args.key.now other) rank (rank_in g.K.PartialEq.eq g.P.Ranking.rank_of c.args.values.now.entries other)) c.rank.ensures
    ∙ ranks_with (exact g) g.P.Ranking.rank_of c.args.values.now.entries c.set_value.new.values.entries c.args.key.now (Some c.args.value) c.in_ok-before.ensures.values other)
    (c.in_ok-rerank.ensures (rank_in g.K.PartialEq.eq g.P.Ranking.rank_of c.args.values.now.entries) c.requires
    (sym (c.rank_of-was.ensures ∙ ap (λ value. option_map_or (g.P.Ranking.rank_of c.args.key.now) value None) c.in_ok-before.ensures.before)))
