use Rattle.std.proofs.Common.{bytes_eq}
use Rattle.std.specs.Ordering.{nat_cmp}
use Rattle.std.specs.BTreeSet.{contains}
use Rattle.indexmap.specs.IndexMap.{get}
use Rattle.net_sweep.specs.Settled.{is_candidate}
use Rattle.net_readers.proofs.Sets.{on_ok}
use Rattle.net_sweep.proofs.Changing.{on_ok_both}
use Rattle.net_sweep.proofs.Latching.{fixed_beside, fixed_marked}
use Rattle.net_sweep.proofs.Stepping.{latch_undriven}
use Rattle.net_sweep.proofs.fixing.fix.Goals as goal

pub returns-clause-ready : goal.returns-clause-ready
returns-clause-ready c =
    on_ok_both c.enqueue.result
    (fixed_beside c.args.aliased.now c.add_constant.new.self c.args.place c.len-last.result c.take_latch.result c.args.bit c.in_ok-copy.field-0 c.in_ok-copy-2.field-0
    c.args.tracked.now.slots.items c.take_latch.new.slots.items (get bytes_eq c.args.tracked.now.fanout) (get bytes_eq c.args.tracked.now.table_places) (get bytes_eq c.note_place.new.places) c.args.tracked.now.leaves_read.keys
    (contains nat_cmp c.args.tracked.now.waiting) (contains nat_cmp c.enqueue.new.waiting)
    (latch_undriven c.args.aliased.now c.args.tracked.now.slots.items c.args.place c.take_latch.result c.requires.sound c.take_latch.ensures.taken) c.requires.ready c.take_latch.ensures.taken
    c.in_ok-copy.ensures c.in_ok-add_constant.ensures c.len-last.ensures c.in_ok-copy-2.ensures c.take_latch.ensures.left c.in_ok-note_place.ensures)
    c.enqueue.ensures.put c.enqueue.ensures.kept

pub returns-clause-candidates : goal.returns-clause-candidates
returns-clause-candidates c =
    on_ok c.enqueue.result
    (λ put. fixed_marked c.args.aliased.now c.add_constant.new.self c.len-last.result c.in_ok-copy.field-0 c.args.bit (is_candidate c.args.candidates.now) (is_candidate c.add_candidate.new.candidates)
    c.in_ok-add_constant.ensures c.len-last.ensures c.requires.candidates c.in_ok-add_candidate.ensures)
    c.enqueue.ensures.put
