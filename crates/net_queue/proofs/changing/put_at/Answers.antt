use Rattle.std.proofs.Common.{Some}
use Rattle.indexmap.proofs.CallerLemmas.{updates-with_value_at}
use Rattle.indexmap.specs.IndexMap.{with_value_at}
use Rattle.net_queue.specs.Queue.{rank_in}
use Rattle.net_queue.proofs.Order.{AreExact, entry_at, ranks_with, order_same, with_rank}
use Rattle.net_queue.proofs.changing.put_at.Given.{Over}
use Rattle.net_queue.proofs.changing.put_at.Goals as goal

exact : (g : Over) → AreExact g.K.PartialEq.eq g.R.Ord.cmp g.K.Ord.cmp
exact g = record { rank_total = g.met.R.Ord.total; key_total = g.met.K.Ord.total; ties = g.met.K.Ord.matches_eq; ranks_exact = g.met.P.Ranking.ranks_exact; keys_exact = g.met.P.Ranking.keys_exact }

pub returns-in-Some-clause-values : goal.returns-in-Some-clause-values
returns-in-Some-clause-values g c = λ key before at. (updates-with_value_at c.args.values.now c.args.index c.args.value g.met.K.Eq.laws c.get_index_mut.ensures.unique key before at).0

pub returns-in-Some-clause-order : goal.returns-in-Some-clause-order
returns-in-Some-clause-order g c =
    let ((key, before), at) = entry_at c.args.values.now.entries c.args.index c.requires.within in
    let old = rank_in g.K.PartialEq.eq g.P.Ranking.rank_of c.args.values.now.entries in
    let after = with_value_at c.args.values.now c.args.index c.args.value in
    order_same (exact g) (with_rank (exact g) old key (g.P.Ranking.rank_of key c.args.value)) (rank_in g.K.PartialEq.eq g.P.Ranking.rank_of after.entries) c.rerank_at.new.order
    (ranks_with (exact g) g.P.Ranking.rank_of c.args.values.now.entries after.entries key (Some c.args.value)
    (updates-with_value_at c.args.values.now c.args.index c.args.value g.met.K.Eq.laws c.get_index_mut.ensures.unique key before at).0)
    (c.in_ok-rerank_at.ensures key before at c.requires.order)
