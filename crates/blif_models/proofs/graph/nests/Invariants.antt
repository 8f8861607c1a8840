use Rattle.std.proofs.Common.{◌≡◌, ◌+◌, ◌-◌, ◌≤◌, map, length}
use Rattle.std.specs.List.{range_with_len}
use Rattle.blif_models.specs.Models.{nests}
use Rattle.blif_models.specs.declared.limits.TheConstants.{MAX_DEPTH}
use Rattle.blif_models.proofs.graph.nests.Given as goal

abbrev pub invariant-loop-depth : goal.invariant-loop-depth
invariant-loop-depth l = record {
  within : l.depth ≤ MAX_DEPTH + 1;
  row : l.row.items ≡ map (nests l.graph l.depth) (range_with_len 0 (length l.graph));
}

abbrev pub decreases-loop-depth : goal.decreases-loop-depth
decreases-loop-depth l = MAX_DEPTH + 1 - l.depth
