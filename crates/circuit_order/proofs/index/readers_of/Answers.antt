use Rattle.std.proofs.Common.{◌∙◌, bytes_eq}
use Rattle.indexmap.specs.IndexMap.{get}
use Rattle.circuit_order.proofs.Indexing.{readers_more}
use Rattle.circuit_order.proofs.index.readers_of.Goals as goal

pub loop-reader-preserved : goal.loop-reader-preserved
loop-reader-preserved c = (
  c.in_ok-note_reads.ensures.length ∙ c.loop-reader.invariant.0,
  λ i j.
      readers_more (get bytes_eq c.args.index.now) c.args.tables.now c.loop-reader.reader c.index-tables-reader.result i j _ _ c.loop-reader-test.true c.index-tables-reader.is
      (c.loop-reader.invariant.1 i j) (rw (← c.as_slice.ensures) (c.in_ok-note_reads.ensures.counts i j)),
)
