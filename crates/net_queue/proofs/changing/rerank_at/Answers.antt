use Rattle.std.proofs.Common.{None, cond, sym, ap, subst, ◌∙◌}
use Rattle.std.proofs.lemmas.Option.{same_Some}
use Rattle.std.proofs.lemmas.Result.{on_ok_weaker}
use Rattle.std.specs.Option.{option_map_or}
use Rattle.net_queue.specs.Queue.{rank_in, IsOrder}
use Rattle.net_queue.proofs.changing.rerank_at.Goals as goal

pub returns-in-Some : goal.returns-in-Some
returns-in-Some g c =
    let ranks = rank_in g.K.PartialEq.eq g.P.Ranking.rank_of c.args.values.now.entries in
    on_ok_weaker c.rerank.result
    (λ told key before at is.
    subst (λ pair. IsOrder g.R.Ord.cmp g.K.Ord.cmp (λ other. cond (g.K.PartialEq.eq pair.0 other) (g.P.Ranking.rank_of pair.0 c.args.value) (ranks other)) c.rerank.new.order)
    (same_Some (c.in-Some.key.now, c.in-Some.before.now) (key, before) (c.in-Some.ensures.entry ∙ at))
    (subst (λ rank. IsOrder g.R.Ord.cmp g.K.Ord.cmp (λ other. cond (g.K.PartialEq.eq c.in-Some.key.now other) rank (ranks other)) c.rerank.new.order) c.rank.ensures
    (told ranks is (ap (λ value. option_map_or (g.P.Ranking.rank_of c.in-Some.key.now) value None) c.in-Some.ensures.value ∙ sym c.rank-was.ensures))))
    c.rerank.ensures
