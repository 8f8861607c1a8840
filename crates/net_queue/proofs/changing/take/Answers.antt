use Rattle.std.proofs.Common.{None, cond, sym, ap, ◌∙◌}
use Rattle.std.proofs.lemmas.Map.Made.{lookup_key_passes}
use Rattle.std.specs.Map.{lookup}
use Rattle.std.specs.Option.{option_map_or}
use Rattle.net_queue.specs.Queue.{rank_in}
use Rattle.net_queue.proofs.Order.{AreExact, ranks_with, same_key, order_same, with_rank}
use Rattle.net_queue.proofs.changing.take.Given.{Over}
use Rattle.net_queue.proofs.changing.take.Goals as goal

exact : (g : Over) → AreExact g.K.PartialEq.eq g.R.Ord.cmp g.K.Ord.cmp
exact g = record { rank_total = g.met.R.Ord.total; key_total = g.met.K.Ord.total; ties = g.met.K.Ord.matches_eq; ranks_exact = g.met.P.Ranking.ranks_exact; keys_exact = g.met.P.Ranking.keys_exact }

pub returns-in-Some-clause-order : goal.returns-in-Some-clause-order
returns-in-Some-clause-order g c =
    let same = same_key (exact g) c.args.key.now c.in-Some.own (lookup_key_passes (g.K.PartialEq.eq c.args.key.now) c.args.values.now.entries c.in-Some.own (sym c.in-Some.ensures.key)) in
    let found = ap (λ key. lookup (g.K.PartialEq.eq key) c.args.values.now.entries) (sym same) ∙ sym c.in-Some.ensures.value in
    order_same (exact g) (with_rank (exact g) (rank_in g.K.PartialEq.eq g.P.Ranking.rank_of c.args.values.now.entries) c.in-Some.own None) (rank_in g.K.PartialEq.eq g.P.Ranking.rank_of c.swap_remove_entry.new.self.entries) c.unrank-own.new.order
    (λ other.
    ap (λ key. cond (g.K.PartialEq.eq key other) None (rank_in g.K.PartialEq.eq g.P.Ranking.rank_of c.args.values.now.entries other)) (sym same)
    ∙ ranks_with (exact g) g.P.Ranking.rank_of c.args.values.now.entries c.swap_remove_entry.new.self.entries c.args.key.now None c.in-Some.ensures.updates.0 other)
    (c.unrank-own.ensures.order (rank_in g.K.PartialEq.eq g.P.Ranking.rank_of c.args.values.now.entries) c.requires
    (ap (λ value. option_map_or (g.P.Ranking.rank_of c.in-Some.own) value None) found ∙ sym c.rank-rank.ensures))
