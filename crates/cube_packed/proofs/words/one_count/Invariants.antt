use Rattle.std.proofs.Common.{◌≡◌, ◌+◌, ◌*◌, drop}
use Rattle.cube_cover.specs.Literals.{row_literals}
use Rattle.cube_packed.specs.Planes.{plane_literals}
use Rattle.cube_packed.proofs.words.one_count.Given as goal

abbrev pub invariant-loop-place : goal.invariant-loop-place
invariant-loop-place l =
    l.count + row_literals (drop (64 * l.place) (plane_literals l.width l.words l.others)) ≡ row_literals (plane_literals l.width l.words l.others)
