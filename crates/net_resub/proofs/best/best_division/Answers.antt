use Rattle.std.proofs.Common.{sym, ◌∙◌}
use Rattle.std.specs.Map.Iter.{deref}
use Rattle.std.proofs.lemmas.Map.Iter.{iter_end}
use Rattle.net_queue.specs.Greatest.{greatest_total}
use Rattle.net_queue.proofs.Best.{order_split, turn_best, end_none}
use Rattle.net_resub.specs.Best.{is_led, worth_at}
use Rattle.net_resub.specs.Pairs.{saving_at}
use Rattle.net_resub.proofs.Firsts.{May, came_led, division_total, ranks_in, none_best, first_best}
use Rattle.net_resub.proofs.Saving.{led_nothing, unled_whole}
use Rattle.net_resub.proofs.best.best_division.Goals as goal

pub returns-then-not-branch : goal.returns-then-not-branch
returns-then-not-branch g c =
    let led = is_led c.args.work.now.slots in
    let split =
    order_split c.order-ranked-items.result.now.keys c.into_iter-ranked-iterator.result c.loop-ranked.ranked-iterator c.next.new.self c.loop-ranked.yielded c.next.result c.in-Some.ranked
    c.into_iter-ranked-iterator.ensures.into_iter_gives.0 c.loop-ranked.yielded_by c.in-Some.is c.next.ensures.steps in
    first_best led (saving_at c.args.work.now.slots) (worth_at c.args.work.now.slots) (led_nothing c.args.work.now.slots) (unled_whole c.args.work.now.slots) c.args.divisions.now c.requires.kept c.in-Some.ranked.now.1
    (turn_best greatest_total division_total (ranks_in c.args.divisions.now) (May led) c.order-ranked-items.result.now.keys c.order-ranked-items.ensures c.loop-ranked.yielded c.in-Some.ranked.now c.next.new.self split
    (came_led led c.loop-ranked.yielded c.loop-ranked.invariant)) (sym c.in_ok-is_led.ensures ∙ c.if-not-branch.true)

pub returns : goal.returns
returns g c =
    let led = is_led c.args.work.now.slots in
    let whole = iter_end deref c.order-ranked-items.result.now.keys c.loop-ranked.yielded c.into_iter-ranked-iterator.result c.loop-ranked.ranked-iterator c.next.new.self c.next.result
    c.into_iter-ranked-iterator.ensures.into_iter_gives.0 c.loop-ranked.yielded_by c.in-None.is c.next.ensures.steps in
    none_best led (saving_at c.args.work.now.slots) (worth_at c.args.work.now.slots) (led_nothing c.args.work.now.slots) (unled_whole c.args.work.now.slots) c.args.divisions.now c.requires.kept
    (end_none greatest_total division_total (ranks_in c.args.divisions.now) (May led) c.order-ranked-items.result.now.keys c.order-ranked-items.ensures c.loop-ranked.yielded (sym whole.0) (came_led led c.loop-ranked.yielded c.loop-ranked.invariant))
