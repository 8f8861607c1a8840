use Rattle.std.proofs.Common.{bytes_eq}
use Rattle.indexmap.specs.IndexMap.{get}
use Rattle.net_sweep.proofs.Enqueuing.{placed_next}
use Rattle.net_sweep.proofs.tracking.table_places.Goals as goal

pub loop-place-preserved : goal.loop-place-preserved
loop-place-preserved c =
    placed_next (get bytes_eq c.loop-place.places) (get bytes_eq c.note_place.new.places) c.args.tables.now c.loop-place.place c.index-tables-place.result c.in_ok-copy.field-0 c.requires c.loop-place-test.true c.index-tables-place.is
    c.in_ok-copy.ensures c.loop-place.invariant c.in_ok-note_place.ensures
