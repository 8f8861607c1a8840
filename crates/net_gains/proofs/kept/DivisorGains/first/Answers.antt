use Rattle.std.proofs.Common.{ℕ, [], ◌∷◌, Bor, sym}
use Rattle.std.specs.Map.Iter.{deref}
use Rattle.std.specs.declared.cmp.Reverse.{Reverse}
use Rattle.std.proofs.lemmas.Map.Iter.{iter_end}
use Rattle.circuit_laws.proofs.Sound.{all_append}
use Rattle.cover_names.specs.Literals.{NamedCover}
use Rattle.net_queue.specs.Greatest.{greatest_cmp, greatest_total}
use Rattle.net_queue.specs.Queue.{IsBest}
use Rattle.net_queue.proofs.Best.{order_split, turn_best, end_none}
use Rattle.net_gains.specs.Divisors.{cover_of, divisor_cmp}
use Rattle.net_gains.specs.Orders.{divisor_total}
use Rattle.net_gains.specs.Numbers.{DoesPass}
use Rattle.net_gains.specs.declared.divisor.Divisor.{Divisor}
use Rattle.net_gains.proofs.Best.{ranks, PassesAt, ranked_long, first_is, none_passes}
use Rattle.net_gains.proofs.kept.DivisorGains.first.Goals as goal
use Rattle.net_gains.proofs.kept.DivisorGains.first.Goals.{In-Some}

best : (g : _) (c : In-Some g)
    → IsBest greatest_cmp divisor_cmp (ranks c.self.inside.codes c.sound.ensures.rising c.self.inside.counted c.self.invariant (g.T.Trial.Passes c.args.trial.now))
    (PassesAt c.self.inside.codes c.sound.ensures.rising c.self.inside.counted c.self.invariant (g.T.Trial.Passes c.args.trial.now)) c.in-Some.ranked.now.1
best g c =
    turn_best greatest_total divisor_total (ranks c.self.inside.codes c.sound.ensures.rising c.self.inside.counted c.self.invariant (g.T.Trial.Passes c.args.trial.now))
    (PassesAt c.self.inside.codes c.sound.ensures.rising c.self.inside.counted c.self.invariant (g.T.Trial.Passes c.args.trial.now)) c.order-ranked-items.result.now.keys c.order-ranked-items.ensures
    c.loop-ranked.yielded c.in-Some.ranked.now c.next.new.self
    (order_split c.order-ranked-items.result.now.keys c.into_iter-ranked-iterator.result c.loop-ranked.ranked-iterator c.next.new.self c.loop-ranked.yielded c.next.result c.in-Some.ranked
    c.into_iter-ranked-iterator.ensures.into_iter_gives.0 c.loop-ranked.yielded_by c.in-Some.is c.next.ensures.steps)
    c.loop-ranked.invariant

pub passing_cover-requires-clause-some : goal.passing_cover-requires-clause-some
passing_cover-requires-clause-some g c =
    let best = best g (goal.at.passing_cover-requires-clause-some g c).In-Some in
    ranked_long c.self.inside.codes c.sound.ensures.rising c.self.inside.counted c.self.invariant (g.T.Trial.Passes c.args.trial.now) c.in-Some.ranked.now.1 best.rank best.here

pub returns-in-Some-2 : goal.returns-in-Some-2
returns-in-Some-2 g c =
    let does = rw c.in-Some-2.is at c.in_ok-cover.ensures in
    rw (← c.self.view_is)
    (first_is c.self.inside.codes c.sound.ensures.rising c.self.inside.counted c.self.invariant (g.T.Trial.Passes c.args.trial.now) c.in-Some.ranked.now.1 (best g (goal.at.returns-in-Some-2 g c).In-Some) c.in-Some-2.cover does)

pub loop-ranked-preserved : goal.loop-ranked-preserved
loop-ranked-preserved g c =
    let fails = rw c.in_default.is at c.in_ok-cover.ensures in
    all_append (λ (ranked : Bor (Reverse ℕ × Divisor)). (cover : NamedCover) × DoesPass (g.T.Trial.Passes c.args.trial.now) c.self.inside.codes (cover_of ranked.now.1) cover → ⊥) c.loop-ranked.yielded (c.in-Some.ranked ∷ []) c.loop-ranked.invariant
    ((λ does. fails does.0 does.1.known does.1.are does.1.passes), tt)

pub returns : goal.returns
returns g c =
    let whole = iter_end deref c.order-ranked-items.result.now.keys c.loop-ranked.yielded c.into_iter-ranked-iterator.result c.loop-ranked.ranked-iterator c.next.new.self c.next.result
    c.into_iter-ranked-iterator.ensures.into_iter_gives.0 c.loop-ranked.yielded_by c.in-None.is c.next.ensures.steps in
    rw (← c.self.view_is)
    (none_passes c.self.inside.codes c.sound.ensures.rising c.self.inside.counted c.self.invariant (g.T.Trial.Passes c.args.trial.now)
    (end_none greatest_total divisor_total (ranks c.self.inside.codes c.sound.ensures.rising c.self.inside.counted c.self.invariant (g.T.Trial.Passes c.args.trial.now)) (PassesAt c.self.inside.codes c.sound.ensures.rising c.self.inside.counted c.self.invariant (g.T.Trial.Passes c.args.trial.now))
    c.order-ranked-items.result.now.keys c.order-ranked-items.ensures c.loop-ranked.yielded (sym whole.0) c.loop-ranked.invariant))
