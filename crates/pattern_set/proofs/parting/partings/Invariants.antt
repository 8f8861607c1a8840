use Rattle.std.proofs.Common.{◌≡◌, ◌≤◌, length, drop}
use Rattle.pattern_set.specs.Lists.{partings as all_partings}
use Rattle.pattern_set.proofs.parting.partings.Given as goal

abbrev pub invariant-loop-place : goal.invariant-loop-place
invariant-loop-place l = record {
  within : l.place ≤ length l.places;
  made : l.made.items ≡ all_partings (drop l.place l.places);
}

abbrev pub decreases-loop-place : goal.decreases-loop-place
decreases-loop-place l = l.place
