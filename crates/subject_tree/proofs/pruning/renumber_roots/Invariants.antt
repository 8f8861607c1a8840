use Rattle.std.proofs.Common.{◌≡◌, ◌++◌, map, take, drop}
use Rattle.subject_tree.specs.Pruning.{renumbered_root}
use Rattle.subject_tree.proofs.pruning.renumber_roots.Given as goal

abbrev pub invariant-loop-root : goal.invariant-loop-root
invariant-loop-root l = l.root-items ≡ map (renumbered_root l.numbers) (take l.root-index l.fn.roots.items) ++ drop l.root-index l.fn.roots.items
