use Rattle.std.proofs.Common.{◌∙◌, slice_index_or}
use Rattle.subject_tree.specs.declared.forest.Root.{Root}
use Rattle.subject_tree.proofs.Rooting.{sum_more}
use Rattle.subject_tree.proofs.forest.sum_sizes.Goals as goal

pub loop-root-preserved : goal.loop-root-preserved
loop-root-preserved c =
    c.saturating_add-total.ensures
    ∙ sum_more (λ (root : Root). slice_index_or c.args.sizes.now root.number 1) c.args.roots.now c.loop-root.root-index c.root-item.result c.size_at.result c.loop-root.total c.loop-root-test.true c.root-item.is c.size_at.ensures c.loop-root.invariant
