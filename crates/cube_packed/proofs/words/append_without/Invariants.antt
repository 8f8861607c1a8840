use Rattle.std.proofs.Common.{◌≡◌, ◌++◌, take}
use Rattle.std.specs.Simd.Lanes.{zip2}
use Rattle.cube_packed.specs.Planes.{and_not}
use Rattle.cube_packed.proofs.words.append_without.Given as goal

abbrev pub invariant-loop-place : goal.invariant-loop-place
invariant-loop-place l = l.made.items ≡ l.fn.made.items ++ take l.place (zip2 and_not l.words l.masks)
