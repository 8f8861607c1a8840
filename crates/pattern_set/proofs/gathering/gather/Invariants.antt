use Rattle.std.proofs.Common.{[], fold, take}
use Rattle.subject_tree.specs.Arenas.{KeepsTrees}
use Rattle.pattern_set.specs.Lists.{gathered_more}
use Rattle.pattern_set.specs.Numbers.{GatherAll}
use Rattle.pattern_set.proofs.gathering.gather.Given as goal

abbrev pub invariant-loop-node : goal.invariant-loop-node
invariant-loop-node l = record {
  kept : KeepsTrees l.fn.arena l.arena;
  waiting : GatherAll l.arena l.waiting.items (fold gathered_more [] (take l.node-index l.nodes));
}
