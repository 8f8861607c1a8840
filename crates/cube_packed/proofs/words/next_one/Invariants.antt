use Rattle.std.proofs.Common.{◌≤◌, ◌*◌, ◌/◌}
use Rattle.cube_packed.proofs.PlaneNext.{none_before}
use Rattle.cube_packed.proofs.words.next_one.Given as goal

abbrev pub invariant-loop-place : goal.invariant-loop-place
invariant-loop-place l = (l.from / 64 ≤ l.place) × none_before l.from l.words l.others (64 * l.place)
