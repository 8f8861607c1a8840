use Rattle.std.specs.List.{filter}
use Rattle.circuit_model.specs.Names.{has}
use Rattle.line_words.specs.LineWords.{texts}
use Rattle.blif_gates.specs.GateLines.{signals_of}
use Rattle.blif_models.proofs.PortSets.{set_more_at, reads_both}
use Rattle.blif_models.proofs.port_lines.add_reads.Goals as goal

pub loop-word-preserved : goal.loop-word-preserved
loop-word-preserved c =
    set_more_at (λ words. filter (has c.args.inputs.now) (signals_of (texts words))) (reads_both c.args.inputs.now)
    c.args.words.now c.loop-word.word-index _ c.args.set.now c.loop-word.set c.add_read.new.set
    c.loop-word-test.true c.loop-word.invariant c.in_ok-add_read.ensures
