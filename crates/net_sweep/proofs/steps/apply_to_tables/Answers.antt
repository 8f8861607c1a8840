use Rattle.std.proofs.Common.{bytes_eq}
use Rattle.std.specs.Ordering.{nat_cmp}
use Rattle.std.specs.BTreeSet.{contains}
use Rattle.indexmap.specs.IndexMap.{get}
use Rattle.net_sweep.proofs.Changing.{on_ok_both}
use Rattle.net_sweep.proofs.Latching.{applied_beside}
use Rattle.net_sweep.proofs.steps.apply_to_tables.Goals as goal

pub returns-clause-ready : goal.returns-clause-ready
returns-clause-ready g c =
    on_ok_both c.enqueue_all.result
    (applied_beside c.args.rule c.args.aliased.now c.apply_rule.new.aliased c.args.place c.args.tracked.now.slots.items (get bytes_eq c.args.tracked.now.fanout) (get bytes_eq c.args.tracked.now.table_places) c.args.tracked.now.leaves_read.keys
    (contains nat_cmp c.args.tracked.now.waiting) (contains nat_cmp c.enqueue_all.new.waiting) c.in_ok-places.places c.as_slice.result.now c.requires.sound c.requires.within c.requires.ready
    c.in_ok-places.ensures.applied c.in_ok-places.ensures.others c.as_slice.ensures)
    c.enqueue_all.ensures.put c.enqueue_all.ensures.kept
