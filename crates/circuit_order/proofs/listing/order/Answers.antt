use Rattle.std.proofs.Common.{nat_cmp, bytes_eq, slice_get, refl, ap, ◌∙◌}
use Rattle.std.specs.BTreeSet.{contains}
use Rattle.indexmap.specs.IndexMap.{get}
use Rattle.circuit_order.specs.Places.{is_done}
use Rattle.circuit_order.proofs.Underway.{underway_begun, underway_ends, ready_within, next_reads, IsTurn, turn_bound, turn_more, turn_shorter}
use Rattle.circuit_order.proofs.listing.order.Goals as goal

pub loop-place-init : goal.loop-place-init
loop-place-init c =
    rw c.new-listed.ensures
    (underway_begun c.args.tables.now (get bytes_eq c.in_ok-index.index) c.in_ok-waiting.waiting.items (contains nat_cmp c.in_ok-ready.ready) c.in_ok-index.ensures c.in_ok-waiting.ensures
    (λ i. c.in_ok-ready.ensures i ∙ ap (λ xs. is_done (slice_get xs i)) c.as_slice.ensures.value))

pub output_at-requires : goal.output_at-requires
output_at-requires c =
    ready_within c.args.tables.now c.loop-place.listed c.loop-place.waiting.items (contains nat_cmp c.loop-place.ready) c.loop-place.invariant c.in-Some.place _ c.in-Some.ensures.among refl

pub index-requires : goal.index-requires
index-requires c =
    ready_within c.args.tables.now c.loop-place.listed c.loop-place.waiting.items (contains nat_cmp c.loop-place.ready) c.loop-place.invariant c.in-Some.place _ c.in-Some.ensures.among
    (c.in_ok-readers.readers.ok.0 ∙ c.in_ok-readers.ensures.length)

pub settle-requires : goal.settle-requires
settle-requires c =
    let lt = ready_within c.args.tables.now c.loop-place.listed c.loop-place.waiting.items (contains nat_cmp c.loop-place.ready) c.loop-place.invariant c.in-Some.place _ c.in-Some.ensures.among refl in
    let reads = next_reads c.args.tables.now (get bytes_eq c.in_ok-index.index) c.in_ok-readers.readers.items c.in-Some.place c.index-in-Some.result.now c.as_slice-in-Some.result.now lt c.in_ok-readers.ensures.length c.index-in-Some.ensures c.as_slice-in-Some.ensures c.in_ok-readers.ensures.counts in
    let turn : IsTurn c.args.tables.now c.loop-place.listed c.loop-place.waiting.items (contains nat_cmp c.loop-place.ready) (get bytes_eq c.in_ok-index.index) c.in-Some.place c.as_slice-in-Some.result.now = record {
      underway = c.loop-place.invariant;
      different = c.requires;
      index = c.in_ok-index.ensures;
      among = c.in-Some.ensures.among;
      least = c.in-Some.ensures.least;
      reads = reads;
    } in
    turn_bound _ _ _ _ _ _ _ turn

pub loop-place-smaller : goal.loop-place-smaller
loop-place-smaller c =
    turn_shorter c.args.tables.now c.loop-place.listed c.push.new.self c.in_ok-output_at.field-0 c.loop-place.waiting.items (contains nat_cmp c.loop-place.ready) c.in-Some.place c.loop-place.invariant c.in-Some.ensures.among
    c.in_ok-push.ensures.ok

pub loop-place-preserved : goal.loop-place-preserved
loop-place-preserved c =
    let lt = ready_within c.args.tables.now c.loop-place.listed c.loop-place.waiting.items (contains nat_cmp c.loop-place.ready) c.loop-place.invariant c.in-Some.place _ c.in-Some.ensures.among refl in
    let reads = next_reads c.args.tables.now (get bytes_eq c.in_ok-index.index) c.in_ok-readers.readers.items c.in-Some.place c.index-in-Some.result.now c.as_slice-in-Some.result.now lt c.in_ok-readers.ensures.length c.index-in-Some.ensures c.as_slice-in-Some.ensures c.in_ok-readers.ensures.counts in
    let turn : IsTurn c.args.tables.now c.loop-place.listed c.loop-place.waiting.items (contains nat_cmp c.loop-place.ready) (get bytes_eq c.in_ok-index.index) c.in-Some.place c.as_slice-in-Some.result.now = record {
      underway = c.loop-place.invariant;
      different = c.requires;
      index = c.in_ok-index.ensures;
      among = c.in-Some.ensures.among;
      least = c.in-Some.ensures.least;
      reads = reads;
    } in
    turn_more _ _ _ _ _ _ _ turn c.push.new.self c.in_ok-output_at.field-0 c.settle.new.counts.items (contains nat_cmp c.pop_least.new.ready) (contains nat_cmp c.settle.new.ready)
    c.in_ok-push.ensures.ok c.in_ok-output_at.ensures c.in_ok-settle.ensures.length c.in_ok-settle.ensures.counts c.in-Some.ensures.left c.in_ok-settle.ensures.ready

pub returns : goal.returns
returns c = underway_ends c.args.tables.now c.loop-place.listed c.loop-place.waiting.items (contains nat_cmp c.loop-place.ready) c.loop-place.invariant c.in_default.ensures.none
