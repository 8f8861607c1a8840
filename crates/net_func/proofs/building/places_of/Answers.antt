use Rattle.std.proofs.Common.{bytes_eq}
use Rattle.indexmap.specs.IndexMap.{get}
use Rattle.circuit_order.proofs.Indexing.{index_more}
use Rattle.net_func.proofs.building.places_of.Goals as goal

pub loop-place-preserved : goal.loop-place-preserved
loop-place-preserved c =
    index_more c.args.tables.now (get bytes_eq c.loop-place.places)
    (get bytes_eq c.note_place.new.places) c.loop-place.place c.index-tables-place.result c.requires
    c.loop-place-test.true c.index-tables-place.is
    c.loop-place.invariant (λ name. rw (← c.in_ok-copy.ensures) (c.in_ok-note_place.ensures name))
