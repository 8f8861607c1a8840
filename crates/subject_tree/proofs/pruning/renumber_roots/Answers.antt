use Rattle.std.proofs.Common.{sym, ap, ◌∙◌, arith}
use Rattle.subject_tree.specs.Pruning.{number_in}
use Rattle.subject_tree.specs.declared.forest.Root.{Root}
use Rattle.subject_tree.proofs.Shrinking.{renumber_more}
use Rattle.subject_tree.proofs.pruning.renumber_roots.Goals as goal

pub loop-root-preserved : goal.loop-root-preserved
loop-root-preserved c =
    renumber_more c.args.numbers.now c.args.roots.now.items c.loop-root.root-items c.loop-root.root-index c.root-item.result c.number_at-root.result (omega (arith, c.deref_mut-root-items.ensures.len))
    c.loop-root.invariant c.root-item.is (c.number_at-root.ensures ∙ ap (λ (root : Root). number_in c.args.numbers.now root.number) (sym c.root-item.is))
