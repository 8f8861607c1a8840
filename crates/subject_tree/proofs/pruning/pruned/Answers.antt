use Rattle.std.proofs.Common.{ℕ, List, map, ap, ◌∙◌}
use Rattle.subject_tree.specs.Trees.{size_of}
use Rattle.subject_tree.specs.Arenas.{tree_at}
use Rattle.subject_tree.specs.Pruning.{renumbered_root}
use Rattle.subject_tree.specs.declared.forest.Root.{Root}
use Rattle.subject_tree.proofs.Shrinking.{each_small, roots_kept}
use Rattle.subject_tree.proofs.pruning.pruned.Goals as goal

pub returns-clause-roots : goal.returns-clause-roots
returns-clause-roots c names tree tables are le =
    roots_kept _ c.args.arena.now c.keep_small.new.kept c.in_ok-numbers.numbers.items c.in_ok-numbers.ensures.each names tree tables c.args.roots.now.items c.renumber_roots.new.roots.items
    (c.renumber_roots.ensures ∙ ap (λ (ns : List ℕ). map (renumbered_root ns) c.args.roots.now.items) c.as_slice.ensures.value)
    (each_small (λ (root : Root). size_of (tree_at c.args.arena.now root.number)) c.args.roots.now.items _ le) are
