use Rattle.std.proofs.Common.{◌≡◌, take, slice_index_or, sum_by}
use Rattle.subject_tree.specs.Sizes.{word_count}
use Rattle.subject_tree.specs.declared.forest.Root.{Root}
use Rattle.subject_tree.proofs.forest.sum_sizes.Given as goal

abbrev pub invariant-loop-root : goal.invariant-loop-root
invariant-loop-root l =
    l.total ≡ word_count (sum_by (λ (root : Root). slice_index_or l.sizes root.number 1) (take l.root-index l.roots))
