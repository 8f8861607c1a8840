use Rattle.std.proofs.Common.{bytes_eq, sym, ◌∙◌}
use Rattle.std.specs.Ordering.{nat_cmp}
use Rattle.std.specs.BTreeSet.{contains}
use Rattle.indexmap.specs.IndexMap.{get}
use Rattle.net_sweep.specs.Latches.{left_at, with_latches}
use Rattle.net_readers.proofs.Sets.{on_ok}
use Rattle.net_sweep.proofs.Latching.{sound_tables}
use Rattle.net_sweep.proofs.Emptying.{emptied_set, emptied_led, emptied_marked, emptied_beside}
use Rattle.net_sweep.proofs.idle.empty_at_step.Goals as goal

pub returns-in_ok-constant-in-Some-clause-led : goal.returns-in_ok-constant-in-Some-clause-led
returns-in_ok-constant-in-Some-clause-led c =
    let untaken = c.if-not-is_untaken.false in
    on_ok c.set.result
    (λ put. emptied_led c.args.aliased.now c.set.new.self c.args.tracked.now.slots.items (get bytes_eq c.args.tracked.now.fanout) (get bytes_eq c.args.tracked.now.table_places) c.args.tracked.now.leaves_read.keys
    (contains nat_cmp c.args.tracked.now.waiting) c.in-Apply.place c.in-Some.table c.requires.sound c.requires.ready (sym c.in_ok-table.ensures ∙ c.in-Some.is) (c.is_untaken.ensures.unread untaken)
    (c.is_untaken.ensures.no_fanout untaken) (c.is_untaken.ensures.uncared untaken)
    (emptied_set c.args.aliased.now c.set.new.self c.in-Apply.place c.in-Some.table.output c.in_ok-constant-in-Some.constant c.in_ok-constant-in-Some.ensures put))
    c.set.ensures

pub returns-in_ok-constant-in-Some-clause-candidates : goal.returns-in_ok-constant-in-Some-clause-candidates
returns-in_ok-constant-in-Some-clause-candidates c =
    on_ok c.set.result
    (λ put. emptied_marked c.args.aliased.now c.set.new.self c.in-Apply.place c.in-Some.table (sym c.in_ok-table.ensures ∙ c.in-Some.is) (c.is_untaken.ensures.unread c.if-not-is_untaken.false)
    (emptied_set c.args.aliased.now c.set.new.self c.in-Apply.place c.in-Some.table.output c.in_ok-constant-in-Some.constant c.in_ok-constant-in-Some.ensures put))
    c.set.ensures

pub returns-in_ok-constant-in-Some-clause-ready : goal.returns-in_ok-constant-in-Some-clause-ready
returns-in_ok-constant-in-Some-clause-ready c =
    on_ok c.set.result
    (λ put. emptied_beside c.args.aliased.now c.set.new.self c.args.tracked.now.slots.items (get bytes_eq c.args.tracked.now.fanout) (get bytes_eq c.args.tracked.now.table_places) c.args.tracked.now.leaves_read.keys
    (contains nat_cmp c.args.tracked.now.waiting) c.in-Apply.place c.in-Some.table (sound_tables (with_latches c.args.aliased.now (left_at c.args.tracked.now.slots.items)) c.requires.sound) c.requires.ready
    (sym c.in_ok-table.ensures ∙ c.in-Some.is) (c.is_untaken.ensures.no_fanout c.if-not-is_untaken.false)
    (emptied_set c.args.aliased.now c.set.new.self c.in-Apply.place c.in-Some.table.output c.in_ok-constant-in-Some.constant c.in_ok-constant-in-Some.ensures put))
    c.set.ensures
