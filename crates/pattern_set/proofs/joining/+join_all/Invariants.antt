use Rattle.std.proofs.Common.{◌-◌, take, get_or}
use Rattle.std.specs.List.{flat_map}
use Rattle.subject_tree.specs.Arenas.{KeepsTrees}
use Rattle.pattern_set.specs.Lists.{join_by}
use Rattle.pattern_set.specs.Numbers.{AreNumbers, set_trees}
use Rattle.pattern_set.proofs.Numbering.{parting_trees}
use Rattle.pattern_set.proofs.joining.+join_all.Given as goal

abbrev pub decreases-join_all : goal.decreases-join_all
decreases-join_all l = l.depth

abbrev pub invariant-loop-parting : goal.invariant-loop-parting
invariant-loop-parting l = record {
  kept : KeepsTrees l.fn.arena l.arena;
  made : AreNumbers l.arena l.made.items
      (flat_map (parting_trees (join_by l.kind) (set_trees l.fn.arena l.sets) (l.depth - 1) (get_or l.places 0 0)) (take l.parting-index l.parting-items));
}
