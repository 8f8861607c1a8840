use Rattle.std.proofs.Common.{length, ◌∙◌}
use Rattle.map_net.specs.declared.covers.TreeCover.{TreeCover}
use Rattle.map_net.proofs.Taking.{count_more}
use Rattle.map_net.proofs.covers.gate_count.Goals as goal

pub loop-cover-preserved : goal.loop-cover-preserved
loop-cover-preserved c =
    c.saturating_add-count.ensures
    ∙ count_more (λ (cover : TreeCover). length cover.gates) c.args.covers.now
    c.loop-cover.cover-index c.cover-item.result c.len.result c.loop-cover.count
    c.loop-cover-test.true c.cover-item.is c.len.ensures c.loop-cover.invariant
