use Rattle.std.proofs.Common.{◌++◌, take}
use Rattle.subject_tree.specs.Arenas.{KeepsTrees}
use Rattle.subject_tree.specs.Tables.{trees_of}
use Rattle.pattern_set.specs.Lists.{join_by, crossed}
use Rattle.pattern_set.specs.Numbers.{AreNumbers}
use Rattle.pattern_set.proofs.joining.cross.Given as goal

abbrev pub invariant-loop-left : goal.invariant-loop-left
invariant-loop-left l = record {
  kept : KeepsTrees l.fn.arena l.arena;
  made : AreNumbers l.arena l.made.items (trees_of l.fn.arena l.fn.made.items ++ crossed (join_by l.kind) (trees_of l.fn.arena (take l.left-index l.lefts)) (trees_of l.fn.arena l.rights));
}
