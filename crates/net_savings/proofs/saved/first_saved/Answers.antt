use Rattle.std.proofs.Common.{◌≤◌, List, ℕ, [], sym, ◌∙◌, subst}
use Rattle.std.specs.Map.Iter.{deref}
use Rattle.std.proofs.lemmas.Map.Iter.{iter_end}
use Rattle.net_candidates.specs.Candidates.{IsCandidate, literals_in}
use Rattle.net_candidates.specs.Extracting.{IsNext}
use Rattle.net_work.specs.Placed.{standing, circuit_of}
use Rattle.cover_names.specs.Literals.{NamedCover}
use Rattle.cover_names.proofs.Orders.{cover_order}
use Rattle.net_queue.specs.Greatest.{greatest_total}
use Rattle.net_queue.proofs.Best.{order_split, turn_best, end_none}
use Rattle.net_savings.proofs.Best.{IsBestOf, best_told, none_saves}
use Rattle.net_savings.specs.Ranking.{saving_in, covers_under, rank_in}
use Rattle.net_savings.specs.Meeting.{is_met}
use Rattle.net_savings.specs.Savings.{AreNotes}
use Rattle.net_savings.proofs.FirstSaved.{all_listed, some_literal, first_next, none_first}
use Rattle.net_savings.proofs.saved.first_saved.Goals as goal
use Rattle.net_savings.proofs.saved.first_saved.Goals.{In-Some, After-into_iter-ranked-iterator}

notes : (g : _) (c : After-into_iter-ranked-iterator g)
    → AreNotes c.args.rule c.args.work.now (saving_in c.args.kept.now.ranked) (covers_under c.args.kept.now.ranked) c.args.kept.now.own.items [] (is_met c.args.kept.now.changed.items) []
notes g c =
    subst (λ (names : List (List ℕ)). AreNotes c.args.rule c.args.work.now (saving_in c.args.kept.now.ranked) (covers_under c.args.kept.now.ranked) c.args.kept.now.own.items names (is_met c.args.kept.now.changed.items) []) c.requires.touched
    (subst (λ (places : List ℕ). AreNotes c.args.rule c.args.work.now (saving_in c.args.kept.now.ranked) (covers_under c.args.kept.now.ranked) c.args.kept.now.own.items c.args.kept.now.touched.keys (is_met c.args.kept.now.changed.items) places) c.requires.fresh
    c.requires.savings)

best : (g : _) (c : In-Some g) → IsBestOf c.args.kept.now.ranked (IsCandidate c.args.rule (standing c.args.work.now.slots)) c.in-Some.ranked.now.1
best g c =
    let split =
    order_split c.ranking-ranked-items.result.now.keys c.into_iter-ranked-iterator.result c.loop-ranked.ranked-iterator c.next.new.self c.loop-ranked.yielded c.next.result c.in-Some.ranked
    c.into_iter-ranked-iterator.ensures.into_iter_gives.0 c.loop-ranked.yielded_by c.in-Some.is c.next.ensures.steps in
    best_told c.args.kept.now.ranked (IsCandidate c.args.rule (standing c.args.work.now.slots)) c.in-Some.ranked.now.1
    (turn_best greatest_total cover_order.total (rank_in c.args.kept.now.ranked) (IsCandidate c.args.rule (standing c.args.work.now.slots)) c.ranking-ranked-items.result.now.keys c.ranking-ranked-items.ensures c.loop-ranked.yielded
    c.in-Some.ranked.now c.next.new.self split c.loop-ranked.invariant)

pub is_candidate-requires-clause-some : goal.is_candidate-requires-clause-some
is_candidate-requires-clause-some g c =
    subst (λ (cover : NamedCover). 1 ≤ literals_in cover) (sym c.get-cover.ensures)
    (some_literal c.args.rule c.args.work.now c.args.name.now c.requires.sound c.requires.free c.args.kept.now.ranked c.args.kept.now.own.items (is_met c.args.kept.now.changed.items) (notes g (goal.at.is_candidate-requires-clause-some g c).After-into_iter-ranked-iterator)
    c.in-Some.ranked.now.1 (best g (goal.at.is_candidate-requires-clause-some g c).In-Some).saves)

pub is_candidate-requires-clause-listed : goal.is_candidate-requires-clause-listed
is_candidate-requires-clause-listed g c =
    all_listed c.args.rule c.args.work.now c.args.name.now c.requires.sound c.requires.free c.args.kept.now.ranked c.args.kept.now.own.items (is_met c.args.kept.now.changed.items) (notes g (goal.at.is_candidate-requires-clause-listed g c).After-into_iter-ranked-iterator)

pub returns-then-branch : goal.returns-then-branch
returns-then-branch g c =
    subst (IsNext c.args.rule (circuit_of c.args.work.now) c.args.name.now) (sym (c.in_ok-copy.ensures ∙ c.get-cover.ensures))
    (first_next c.args.rule c.args.work.now c.args.name.now c.requires.sound c.requires.free c.args.kept.now.ranked c.args.kept.now.own.items (is_met c.args.kept.now.changed.items) (notes g (goal.at.returns-then-branch g c).After-into_iter-ranked-iterator)
    c.in-Some.ranked.now.1 (subst (IsCandidate c.args.rule (standing c.args.work.now.slots)) c.get-cover.ensures (c.in_ok-is_candidate.ensures.0 c.if-branch.true)) (best g (goal.at.returns-then-branch g c).In-Some))

pub returns : goal.returns
returns g c =
    let whole = iter_end deref c.ranking-ranked-items.result.now.keys c.loop-ranked.yielded c.into_iter-ranked-iterator.result c.loop-ranked.ranked-iterator c.next.new.self c.next.result
    c.into_iter-ranked-iterator.ensures.into_iter_gives.0 c.loop-ranked.yielded_by c.in-None.is c.next.ensures.steps in
    none_first c.args.rule c.args.work.now c.args.name.now c.requires.sound c.requires.free c.args.kept.now.ranked c.args.kept.now.own.items (is_met c.args.kept.now.changed.items) (notes g (goal.at.returns g c).After-into_iter-ranked-iterator)
    (none_saves c.args.kept.now.ranked (IsCandidate c.args.rule (standing c.args.work.now.slots))
    (end_none greatest_total cover_order.total (rank_in c.args.kept.now.ranked) (IsCandidate c.args.rule (standing c.args.work.now.slots)) c.ranking-ranked-items.result.now.keys c.ranking-ranked-items.ensures c.loop-ranked.yielded (sym whole.0)
    c.loop-ranked.invariant))
