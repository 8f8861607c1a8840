use Rattle.std.proofs.Common.{bytes_eq}
use Rattle.indexmap.specs.IndexMap.{get}
use Rattle.net_sweep.proofs.Enqueuing.{under_listed, noted_none, noted_more, all_noted}
use Rattle.net_sweep.proofs.tracking.fanout_of.Goals as goal

pub loop-output-init : goal.loop-output-init
loop-output-init c = (c.in_ok-lists.ensures, noted_none (get bytes_eq c.in_ok-lists.lists))

pub loop-output-preserved : goal.loop-output-preserved
loop-output-preserved c = (
  under_listed c.args.latches.now (get bytes_eq c.loop-output.lists) (get bytes_eq c.note_output.new.lists) c.loop-output.invariant.0 c.in_ok-note_output.ensures.listed,
  noted_more c.args.outputs.now c.loop-output.output-index c.output-item.result (get bytes_eq c.loop-output.lists) (get bytes_eq c.note_output.new.lists) c.loop-output-test.true c.output-item.is c.loop-output.invariant.1
      c.in_ok-note_output.ensures.noted c.in_ok-note_output.ensures.kept,
)

pub returns-clause-outputs : goal.returns-clause-outputs
returns-clause-outputs c = all_noted c.args.outputs.now c.loop-output.output-index (get bytes_eq c.loop-output.lists) c.loop-output-test.false c.loop-output.invariant.1
