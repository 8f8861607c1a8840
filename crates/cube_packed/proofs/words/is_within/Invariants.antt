use Rattle.std.proofs.Common.{◌≡◌, ◌*◌, drop}
use Rattle.cube_packed.specs.Planes.{words_within}
use Rattle.cube_packed.proofs.words.is_within.Given as goal

abbrev pub invariant-loop-block : goal.invariant-loop-block
invariant-loop-block l = words_within l.words l.others ≡ words_within (drop (4 * l.block) l.words) (drop (4 * l.block) l.others)

abbrev pub invariant-loop-place : goal.invariant-loop-place
invariant-loop-place l = words_within l.words l.others ≡ words_within (drop l.place l.words) (drop l.place l.others)
