use Rattle.std.proofs.Common.{◌∙◌, bytes_eq}
use Rattle.indexmap.specs.IndexMap.{get}
use Rattle.circuit_order.proofs.Indexing.{reads_more}
use Rattle.circuit_order.proofs.index.note_reads.Goals as goal

pub loop-input-preserved : goal.loop-input-preserved
loop-input-preserved c = (
  c.in_ok-note_reader.ensures.length ∙ c.loop-input.invariant.0,
  λ i j.
      reads_more (get bytes_eq c.args.index.now) c.args.inputs.now c.loop-input.input-index c.input-item.result i j c.args.reader _ _ _ c.loop-input-test.true c.input-item.is
      (c.loop-input.invariant.1 i j) (rw (← c.found_place.ensures) (c.in_ok-note_reader.ensures.counts i j)),
)
