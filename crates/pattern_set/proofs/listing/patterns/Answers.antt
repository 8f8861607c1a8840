use Rattle.pattern_set.proofs.Members.{gates_more}
use Rattle.pattern_set.proofs.listing.patterns.Goals as goal

pub loop-cell-preserved : goal.loop-cell-preserved
loop-cell-preserved c =
    gates_more c.loop-cell.arena c.gate_of.new.arena c.args.cells.now c.loop-cell.gates c.push.new.self c.loop-cell.cell-index c.cell-item.result c.in_ok-gate.gate c.in_ok-gate.ensures.kept c.loop-cell-test.true
    c.cell-item.is c.loop-cell.invariant c.in_ok-gate.ensures.ok c.in_ok-push.ensures.ok
