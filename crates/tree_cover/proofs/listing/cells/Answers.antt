use Rattle.tree_cover.proofs.EachGate.{cells_more}
use Rattle.tree_cover.proofs.listing.cells.Goals as goal

pub loop-gate-preserved : goal.loop-gate-preserved
loop-gate-preserved c =
    cells_more c.gates-gates.result.now c.loop-gate.made.items c.push.new.self.items c.loop-gate.gate-index c.gate-item.result c.cell_of.result c.loop-gate-test.true c.gate-item.is c.loop-gate.invariant c.cell_of.ensures
    c.in_ok-push.ensures.items
