use Rattle.circuit_model.specs.declared.circuit.Latch.{Latch}
use Rattle.net_func.specs.Numbering.{number_in, has_number}
use Rattle.net_func.proofs.Lists.{test_mapped}
use Rattle.net_func.proofs.seen.latch_changes.Goals as goal

pub change_at-requires-clause-low : goal.change_at-requires-clause-low
change_at-requires-clause-low c =
    test_mapped (has_number (number_in c.args.low.now)) (λ (latch : Latch). latch.input)
    c.args.latches.now
    c.loop-latch.latch-index c.latch-item.result c.requires.low c.loop-latch-test.true
    c.latch-item.is

pub change_at-requires-clause-high : goal.change_at-requires-clause-high
change_at-requires-clause-high c =
    test_mapped (has_number (number_in c.args.high.now)) (λ (latch : Latch). latch.input)
    c.args.latches.now
    c.loop-latch.latch-index c.latch-item.result c.requires.high c.loop-latch-test.true
    c.latch-item.is
