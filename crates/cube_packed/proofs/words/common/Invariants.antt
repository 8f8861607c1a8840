use Rattle.std.proofs.Common.{◌≡◌, take, bit_and}
use Rattle.std.specs.Simd.Lanes.{zip2}
use Rattle.cube_packed.proofs.words.common.Given as goal

abbrev pub invariant-loop-place : goal.invariant-loop-place
invariant-loop-place l = l.made.items ≡ take l.place (zip2 bit_and l.words l.others)
