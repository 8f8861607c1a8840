use Rattle.std.proofs.Common.{◌++◌, map, take}
use Rattle.subject_tree.specs.Arenas.{tree_at, KeepsTrees}
use Rattle.subject_tree.specs.Tables.{trees_of}
use Rattle.pattern_set.specs.Lists.{join_by}
use Rattle.pattern_set.specs.Numbers.{AreNumbers}
use Rattle.pattern_set.proofs.joining.join_each.Given as goal

abbrev pub invariant-loop-right : goal.invariant-loop-right
invariant-loop-right l = record {
  kept : KeepsTrees l.fn.arena l.arena;
  made : AreNumbers l.arena l.made.items (trees_of l.fn.arena l.fn.made.items ++ map (join_by l.kind (tree_at l.fn.arena l.left)) (trees_of l.fn.arena (take l.right-index l.others)));
}
