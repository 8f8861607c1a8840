use Rattle.std.proofs.Common.{map, take}
use Rattle.subject_tree.specs.Arenas.{KeepsTrees}
use Rattle.subject_tree.specs.Tables.{trees_of}
use Rattle.subject_tree.specs.Trees.{complement_of}
use Rattle.pattern_set.specs.Numbers.{AreNumbers}
use Rattle.pattern_set.proofs.gathering.complement_each.Given as goal

abbrev pub invariant-loop-number : goal.invariant-loop-number
invariant-loop-number l = record {
  kept : KeepsTrees l.fn.arena l.arena;
  made : AreNumbers l.arena l.made.items (map complement_of (trees_of l.fn.arena (take l.number-index l.numbers)));
}
