use Rattle.std.proofs.Common.{◌≡◌, None, sym, ap, subst, ◌∙◌}
use Rattle.std.proofs.lemmas.Option.{same_Some}
use Rattle.std.specs.Option.{option_map_or}
use Rattle.net_queue.specs.Queue.{rank_in}
use Rattle.net_queue.proofs.changing.rank_at.Goals as goal

pub returns-in-Some : goal.returns-in-Some
returns-in-Some g c = λ key value at.
    subst (λ pair. rank_in g.K.PartialEq.eq g.P.Ranking.rank_of c.args.values.now.entries pair.0 ≡ c.rank.result) (same_Some (c.in-Some.key.now, c.in-Some.value.now) (key, value) (c.in-Some.ensures.entry ∙ at))
    (ap (λ value. option_map_or (g.P.Ranking.rank_of c.in-Some.key.now) value None) c.in-Some.ensures.value ∙ sym c.rank.ensures)
