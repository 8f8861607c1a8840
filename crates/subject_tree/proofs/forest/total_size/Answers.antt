use Rattle.std.proofs.Common.{ℕ, List, ap, ◌∙◌, slice_index_or, sum_by}
use Rattle.subject_tree.specs.Sizes.{word_count}
use Rattle.subject_tree.specs.declared.forest.Root.{Root}
use Rattle.subject_tree.proofs.Rooting.{total-sizes}
use Rattle.subject_tree.proofs.forest.total_size.Goals as goal

pub returns : goal.returns
returns c =
    total-sizes c.args.arena.now c.in_ok-sizes.sizes.items c.args.roots.now c.sum_sizes-total.result c.in_ok-sizes.ensures
    (c.sum_sizes-total.ensures ∙ ap (λ (sizes : List ℕ). word_count (sum_by (λ (root : Root). slice_index_or sizes root.number 1) c.args.roots.now)) c.as_slice.ensures.value)
