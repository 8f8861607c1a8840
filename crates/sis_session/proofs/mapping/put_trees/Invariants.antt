use Rattle.std.proofs.Common.{◌≡◌, ◌++◌, take, flat_map}
use Rattle.sis_session.specs.Replies.{tree_line}
use Rattle.sis_session.proofs.mapping.put_trees.Given as goal

abbrev pub invariant-loop-tree : goal.invariant-loop-tree
invariant-loop-tree l =
    l.out.items ≡ l.initial.out.items ++ flat_map tree_line (take l.tree-index l.trees)
