use Rattle.std.proofs.Common.{◌≡◌, ◌<◌, List, [], ◌∷◌, length, None, refl, ap, subst, arith}
use Rattle.std.proofs.lemmas.Bool.{false≢true}
use Rattle.std.specs.List.{list_any}
use Rattle.std.specs.Ordering.{is_eq}
use Rattle.net_queue.specs.Queue.{rank_in, ranked_cmp, IsBest}
use Rattle.net_queue.proofs.Order.{AreExact, order_empty, order_first}
use Rattle.net_queue.proofs.queue.Queue.first.Given.{Over}
use Rattle.net_queue.proofs.queue.Queue.first.Goals as goal

exact : (g : Over) → AreExact g.K.PartialEq.eq g.R.Ord.cmp g.K.Ord.cmp
exact g = record { rank_total = g.met.R.Ord.total; key_total = g.met.K.Ord.total; ties = g.met.K.Ord.matches_eq; ranks_exact = g.met.P.Ranking.ranks_exact; keys_exact = g.met.P.Ranking.keys_exact }

no_items : {X : Type 0} (xs : List X) → (0 < length xs → ⊥) → xs ≡ []
no_items [] h = refl
no_items (x ∷ xs) h = absurd (h (omega arith))

pub returns-in-None : goal.returns-in-None
returns-in-None g c =
    subst (λ entries. (key : _) → rank_in g.K.PartialEq.eq g.P.Ranking.rank_of entries key ≡ None) c.self.view_is
    (order_empty (exact g) (rank_in g.K.PartialEq.eq g.P.Ranking.rank_of c.self.inside.values.entries) c.self.inside.order c.self.invariant
    (λ rank key. ap (list_any (λ one. is_eq (ranked_cmp g.R.Ord.cmp g.K.Ord.cmp (rank, key) one))) (no_items c.self.inside.order.keys (λ some. false≢true (c.in-None.ensures.variant.1 some)))))

pub returns-in-Some : goal.returns-in-Some
returns-in-Some g c =
    subst (λ entries. IsBest g.R.Ord.cmp g.K.Ord.cmp (rank_in g.K.PartialEq.eq g.P.Ranking.rank_of entries) (λ other. Unit {0}) c.in-Some.ranked.now.1) c.self.view_is
    (order_first (exact g) (rank_in g.K.PartialEq.eq g.P.Ranking.rank_of c.self.inside.values.entries) c.self.inside.order c.self.invariant c.in-Some.ranked.now c.in-Some.ensures.member c.in-Some.ensures.least)
