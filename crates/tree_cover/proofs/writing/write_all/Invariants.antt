use Rattle.std.proofs.Common.{◌≡◌, length, sum_by}
use Rattle.std.specs.List.{AllByRecursion}
use Rattle.tree_cover.specs.Postorder.{after, to_come, turns_of, StepBelow}
use Rattle.tree_cover.proofs.Sequencing.{progress}
use Rattle.tree_cover.proofs.writing.write_all.Given as goal

abbrev pub invariant-loop-step : goal.invariant-loop-step
invariant-loop-step l = record {
  below : AllByRecursion (StepBelow (length l.choices)) l.waiting.items;
  same : after l.choices (progress l.signals.items l.gates.items) (to_come l.nodes l.choices (length l.choices) l.waiting.items)
      ≡ after l.choices (progress l.fn.signals.items l.fn.gates.items) (to_come l.nodes l.choices (length l.choices) l.fn.waiting.items);
}

abbrev pub decreases-loop-step : goal.decreases-loop-step
decreases-loop-step l = sum_by (turns_of l.nodes l.choices (length l.choices)) l.waiting.items
